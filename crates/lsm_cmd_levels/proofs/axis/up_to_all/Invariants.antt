use Rattle.std.proofs.Common.{◌≡◌, ◌+◌, drop}
use Rattle.std.specs.List.{sum_by}
use Rattle.lsm_cmd_levels.specs.Axis.{up_to}
use Rattle.lsm_cmd_levels.proofs.axis.up_to_all.Given as goal

abbrev pub invariant-loop-files : goal.invariant-loop-files
invariant-loop-files l = l.sum + sum_by (λ fs. sum_by (up_to l.key) fs) (drop l.files-index l.levels) ≡ sum_by (λ fs. sum_by (up_to l.key) fs) l.levels
