use Rattle.std.proofs.Common.{◌≡◌, ◌++◌, take}
use Rattle.lsm_state.specs.Installing.{deleted_at}
use Rattle.lsm_state.proofs.install_change.push_deleted.Given as goal

abbrev pub invariant-loop-table : goal.invariant-loop-table
invariant-loop-table g l = l.deleted.items ≡ l.initial.deleted.items ++ deleted_at l.level (take l.table-index l.tables)
