use Rattle.std.proofs.Common.{◌≡◌, take}
use Rattle.lsm_state.specs.Installing.{added_at}
use Rattle.lsm_state.proofs.install_change.placed_at.Given as goal

abbrev pub invariant-loop-table : goal.invariant-loop-table
invariant-loop-table g l = l.placed.items ≡ added_at l.level (take l.table-index l.tables)
