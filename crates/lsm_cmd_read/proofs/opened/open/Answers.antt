use Rattle.std.proofs.Common.{◌≡◌, ℕ, List}
use Rattle.std.proofs.lemmas.Result.{err_from_is_err_and}
use Rattle.lsm_cmd_read.proofs.ReadingOutcomes.{found_held, open_refused, reads_found}
use Rattle.lsm_cmd_read.proofs.ReadingOutcomes.{reads_refused}
use Rattle.lsm_cmd_read.proofs.opened.open.Goals as goal

pub returns-in_err-found-clause-refused : goal.returns-in_err-found-clause-refused
returns-in_err-found-clause-refused g c =
    let p = err_from_is_err_and c.from_residual.result c.from_residual.ensures.1 in
    let Stored : ℕ → List ℕ → Type 0 = λ number image. (r : g.row.S-Receipt.Denot)
    × g.S.Shelf.is_of g.N.Naming.place r × (g.S.Receipt.TableReceipt.number r ≡ number)
    × (g.S.Receipt.TableReceipt.image r ≡ image) in
    rw (p.1, p.2)
    (open_refused Stored (g.S.Shelf.refuses g.N.Naming.place) g.S.Shelf.honest
    c.in_err-found.field-0.0 _ _ c.in_err-found.ensures.refused)

pub returns-in_err-found-clause-reads : goal.returns-in_err-found-clause-reads
returns-in_err-found-clause-reads g c =
    let Stored : ℕ → List ℕ → Type 0 = λ number image. (r : g.row.S-Receipt.Denot)
    × g.S.Shelf.is_of g.N.Naming.place r × (g.S.Receipt.TableReceipt.number r ≡ number)
    × (g.S.Receipt.TableReceipt.image r ≡ image) in
    reads_refused Stored (g.S.Shelf.refuses g.N.Naming.place) g.S.Shelf.honest
    c.in_err-found.field-0.0 _ _ c.in_err-found.ensures.refused

pub returns-clause-opened : goal.returns-clause-opened
returns-clause-opened g c = found_held g.S.Shelf.honest _ _ _ _ _ _ _ c.in_ok-found.ensures.found
    c.number.ensures c.log.ensures c.prev_log.ensures

pub returns-clause-reads : goal.returns-clause-reads
returns-clause-reads g c = reads_found g.S.Shelf.honest _ _ _ _ _ _ _ c.in_ok-found.ensures.found
