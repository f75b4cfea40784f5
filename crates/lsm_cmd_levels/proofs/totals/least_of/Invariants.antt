use Rattle.std.proofs.Common.{take}
use Rattle.lsm_codec.specs.Lists.{Has}
use Rattle.lsm_cmd_levels.specs.Totals.{IsLeast}
use Rattle.lsm_cmd_levels.proofs.totals.least_of.Given as goal

abbrev pub invariant-loop-file : goal.invariant-loop-file
invariant-loop-file l = IsLeast (Has (take l.file-index l.files)) l.least
