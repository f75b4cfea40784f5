use Rattle.std.proofs.Common.{take}
use Rattle.lsm_cmd_levels.specs.Totals.{IsIn, IsLeast}
use Rattle.lsm_cmd_levels.proofs.totals.least_in.Given as goal

abbrev pub invariant-loop-files : goal.invariant-loop-files
invariant-loop-files l = IsLeast (IsIn (take l.files-index l.levels)) l.least
