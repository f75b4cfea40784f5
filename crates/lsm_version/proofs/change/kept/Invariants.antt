use Rattle.std.proofs.Common.{◌≡◌, take}
use Rattle.std.specs.List.{filter}
use Rattle.lsm_version.specs.Changes.{is_kept}
use Rattle.lsm_version.proofs.change.kept.Given as goal

abbrev pub invariant-loop-table : goal.invariant-loop-table
invariant-loop-table g l = l.kept.items ≡ filter (is_kept l.deleted) (take l.table-index l.level)
