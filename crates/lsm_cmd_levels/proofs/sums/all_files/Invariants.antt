use Rattle.std.proofs.Common.{◌≡◌, ◌+◌, drop, length}
use Rattle.std.specs.List.{sum_by}
use Rattle.lsm_cmd_levels.proofs.sums.all_files.Given as goal

abbrev pub invariant-loop-files : goal.invariant-loop-files
invariant-loop-files l = l.sum + sum_by length (drop l.files-index l.levels) ≡ sum_by length l.levels
