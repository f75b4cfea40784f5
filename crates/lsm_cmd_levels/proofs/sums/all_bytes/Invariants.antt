use Rattle.std.proofs.Common.{◌≡◌, ◌+◌, drop}
use Rattle.std.specs.List.{sum_by}
use Rattle.lsm_cmd_levels.specs.Sums.{bytes_of}
use Rattle.lsm_cmd_levels.proofs.sums.all_bytes.Given as goal

abbrev pub invariant-loop-files : goal.invariant-loop-files
invariant-loop-files l = l.sum + sum_by bytes_of (drop l.files-index l.levels) ≡ sum_by bytes_of l.levels
