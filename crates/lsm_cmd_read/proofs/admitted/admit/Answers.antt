use Rattle.std.proofs.Common.{◌≡◌, ℕ, List}
use Rattle.std.proofs.lemmas.Result.{err_from_is_err_and}
use Rattle.lsm_cmd_read.proofs.QuickLaws.{admitted_held}
use Rattle.lsm_cmd_read.proofs.ReadingOutcomes.{found_held}
use Rattle.lsm_cmd_read.proofs.admitted.admit.Goals as goal

pub returns-clause-admitted : goal.returns-clause-admitted
returns-clause-admitted g c = λ was told.
    let Files : ℕ → List ℕ → Type 0 = g.S.Finding.keeps g.N.Naming.place in
    let Stored : ℕ → List ℕ → Type 0 = λ number image. (r : g.row.S-Receipt.Denot)
    × g.S.Shelf.is_of g.N.Naming.place r × (g.S.Receipt.TableReceipt.number r ≡ number)
    × (g.S.Receipt.TableReceipt.image r ≡ image) in
    admitted_held Files Stored c.args.recovered.shape _ _ _ _ _ was _
    (c.in_ok-admitted.ensures.admitted was told) c.number.ensures c.log.ensures
    c.prev_log.ensures c.tables_are_given.ensures

pub returns-clause-holds : goal.returns-clause-holds
returns-clause-holds g c = λ was told honest.
    found_held g.S.Shelf.honest _ _ _ _ _ was _ (c.in_ok-admitted.ensures.found was told honest)
    c.number.ensures c.log.ensures c.prev_log.ensures
