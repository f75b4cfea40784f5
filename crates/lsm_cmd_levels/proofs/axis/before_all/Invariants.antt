use Rattle.std.proofs.Common.{◌≡◌, ◌+◌, drop}
use Rattle.std.specs.List.{sum_by}
use Rattle.lsm_cmd_levels.specs.Axis.{before}
use Rattle.lsm_cmd_levels.proofs.axis.before_all.Given as goal

abbrev pub invariant-loop-files : goal.invariant-loop-files
invariant-loop-files l = l.sum + sum_by (λ fs. sum_by (before l.key) fs) (drop l.files-index l.levels) ≡ sum_by (λ fs. sum_by (before l.key) fs) l.levels
