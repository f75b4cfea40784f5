use Rattle.lsm_picker.proofs.Choosing.{AllTried}
use Rattle.lsm_picker.proofs.candidates.first_clear.Given as goal

abbrev pub invariant-loop-table : goal.invariant-loop-table
invariant-loop-table g l = g.S.Shelf.honest → AllTried l.version l.reservations l.level l.beyond l.table-index
