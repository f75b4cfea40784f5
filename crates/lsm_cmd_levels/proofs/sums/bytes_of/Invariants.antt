use Rattle.std.proofs.Common.{◌≡◌, ◌+◌, drop}
use Rattle.lsm_cmd_levels.specs.Sums.{bytes_of}
use Rattle.lsm_cmd_levels.proofs.sums.bytes_of.Given as goal

abbrev pub invariant-loop-file : goal.invariant-loop-file
invariant-loop-file l = l.bytes + bytes_of (drop l.file-index l.files) ≡ bytes_of l.files
