use Rattle.std.specs.Prelude.{ℕ, List}
use Rattle.lsm_shelf.specs.Stored.{Stored}
use Rattle.lsm_theorems.proofs.RecoveryLaws.{done, cut}
use Rattle.lsm_theorems.proofs.recoveries.recoveries_survive.Goals as goal

pub returns-clause-done : goal.returns-clause-done
returns-clause-done g c place =
    let Into : ℕ → List ℕ → Type 0 = Stored g.row.S-Receipt.Denot (g.S.Shelf.is_of place)
    g.S.Receipt.TableReceipt.number g.S.Receipt.TableReceipt.image in
    done c.runs_are_durable.ensures.run c.runs_are_durable.ensures.done Into g.S.Shelf.honest

pub returns-clause-cut : goal.returns-clause-cut
returns-clause-cut g c place =
    let Into : ℕ → List ℕ → Type 0 = Stored g.row.S-Receipt.Denot (g.S.Shelf.is_of place)
    g.S.Receipt.TableReceipt.number g.S.Receipt.TableReceipt.image in
    cut c.runs_are_durable.ensures.run c.runs_are_durable.ensures.done
    c.refused_operations_leave_before_or_after.ensures.refused
    c.refused_operations_leave_before_or_after.ensures.settled
    c.crashes_leave_what_is_known.ensures Into g.S.Shelf.honest
