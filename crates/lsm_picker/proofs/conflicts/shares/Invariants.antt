use Rattle.std.proofs.Common.{◌≡◌, false, take}
use Rattle.lsm_picker.specs.Reservations.{shares}
use Rattle.lsm_picker.proofs.conflicts.shares.Given as goal

abbrev pub invariant-loop-table : goal.invariant-loop-table
invariant-loop-table g l = shares (take l.table-index l.tables) l.job ≡ false
