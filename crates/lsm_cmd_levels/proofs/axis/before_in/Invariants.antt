use Rattle.std.proofs.Common.{◌≡◌, ◌+◌, drop}
use Rattle.std.specs.List.{sum_by}
use Rattle.lsm_cmd_levels.specs.Axis.{before}
use Rattle.lsm_cmd_levels.proofs.axis.before_in.Given as goal

abbrev pub invariant-loop-file : goal.invariant-loop-file
invariant-loop-file l = l.sum + sum_by (before l.key) (drop l.file-index l.files) ≡ sum_by (before l.key) l.files
