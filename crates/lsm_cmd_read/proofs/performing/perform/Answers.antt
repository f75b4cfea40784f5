use Rattle.std.proofs.Common.{◌≡◌, ℕ, List}
use Rattle.std.proofs.lemmas.Result.{err_from_is_err_and}
use Rattle.lsm_cmd_read.specs.Answers.{asking}
use Rattle.lsm_cmd_read.proofs.ReadingOutcomes.{fault_from_open, is_done, is_fault, is_left}
use Rattle.lsm_cmd_read.proofs.ReadingOutcomes.{keeps_leaves, left_out, left_out_leaves}
use Rattle.lsm_cmd_read.proofs.ReadingOutcomes.{reads_later}
use Rattle.lsm_cmd_read.proofs.performing.perform.Goals as goal

pub returns-clause-done : goal.returns-clause-done
returns-clause-done g c =
    let Stored : ℕ → List ℕ → Type 0 = λ number image. (r : g.row.S-Receipt.Denot)
    × g.S.Shelf.is_of g.N.Naming.place r × (g.S.Receipt.TableReceipt.number r ≡ number)
    × (g.S.Receipt.TableReceipt.image r ≡ image) in
    is_done c.perform_on.result (asking c.args.inquiry.now) Stored g.S.Shelf.honest _ _ _ _ _ _ _ _
    _ _ _ c.perform_on.ensures.told
    c.in_ok-opened.ensures.opened c.in_ok-refuse_beside.ensures.whole c.in_ok-opened.ensures.given
    c.perform_on.ensures.done
    (λ asked. c.open_told.ensures.quiet (c.tells_files-progress.ensures asked))
    c.tell_notes.ensures.quiet c.perform_on.ensures.quiet

pub returns-clause-fault : goal.returns-clause-fault
returns-clause-fault g c =
    let Stored : ℕ → List ℕ → Type 0 = λ number image. (r : g.row.S-Receipt.Denot)
    × g.S.Shelf.is_of g.N.Naming.place r × (g.S.Receipt.TableReceipt.number r ≡ number)
    × (g.S.Receipt.TableReceipt.image r ≡ image) in
    is_fault Stored (g.S.Shelf.refuses g.N.Naming.place) g.S.Shelf.honest c.perform_on.result
    (asking c.args.inquiry.now) _ _ _ _ _ c.perform_on.ensures.told
    c.in_ok-opened.ensures.opened c.in_ok-opened.ensures.given c.perform_on.ensures.fault

pub returns-clause-left : goal.returns-clause-left
returns-clause-left g c =
    let Stored : ℕ → List ℕ → Type 0 = λ number image. (r : g.row.S-Receipt.Denot)
    × g.S.Shelf.is_of g.N.Naming.place r × (g.S.Receipt.TableReceipt.number r ≡ number)
    × (g.S.Receipt.TableReceipt.image r ≡ image) in
    is_left c.perform_on.result (asking c.args.inquiry.now) Stored g.S.Shelf.honest _ _ _ _ _ _ _
    c.perform_on.ensures.told c.in_ok-opened.ensures.opened c.in_ok-opened.ensures.given
    c.perform_on.ensures.fault
    c.perform_on.ensures.left

pub returns-in_err-opened-clause-fault : goal.returns-in_err-opened-clause-fault
returns-in_err-opened-clause-fault g c =
    let p = err_from_is_err_and c.from_residual-in_err-opened.result
    c.from_residual-in_err-opened.ensures.1 in
    let Stored : ℕ → List ℕ → Type 0 = λ number image. (r : g.row.S-Receipt.Denot)
    × g.S.Shelf.is_of g.N.Naming.place r × (g.S.Receipt.TableReceipt.number r ≡ number)
    × (g.S.Receipt.TableReceipt.image r ≡ image) in
    rw (p.1, p.2)
    (fault_from_open Stored (g.S.Shelf.refuses g.N.Naming.place) g.S.Shelf.honest
    (asking c.args.inquiry.now) c.in_err-opened.field-0.0 _ _ c.in_err-opened.ensures.refused)

pub returns-in_err-opened-clause-left : goal.returns-in_err-opened-clause-left
returns-in_err-opened-clause-left g c =
    let p = err_from_is_err_and c.from_residual-in_err-opened.result
    c.from_residual-in_err-opened.ensures.1 in
    let Stored : ℕ → List ℕ → Type 0 = λ number image. (r : g.row.S-Receipt.Denot)
    × g.S.Shelf.is_of g.N.Naming.place r × (g.S.Receipt.TableReceipt.number r ≡ number)
    × (g.S.Receipt.TableReceipt.image r ≡ image) in
    rw (p.1, p.2)
    (keeps_leaves Stored (g.S.Shelf.refuses g.N.Naming.place) g.S.Shelf.honest
    (asking c.args.inquiry.now) c.in_err-opened.field-0.0 _ _ _ c.in_err-opened.ensures.refused)

pub returns-clause-reads : goal.returns-clause-reads
returns-clause-reads g c = reads_later _ _ _ c.in_ok-opened.ensures.reads c.perform_on.ensures.told

pub returns-in_err-refuse_beside-clause-fault : goal.returns-in_err-refuse_beside-clause-fault
returns-in_err-refuse_beside-clause-fault g c =
    let p = err_from_is_err_and c.from_residual-in_err-refuse_beside.result
    c.from_residual-in_err-refuse_beside.ensures.1 in
    let Stored : ℕ → List ℕ → Type 0 = λ number image. (r : g.row.S-Receipt.Denot)
    × g.S.Shelf.is_of g.N.Naming.place r × (g.S.Receipt.TableReceipt.number r ≡ number)
    × (g.S.Receipt.TableReceipt.image r ≡ image) in
    rw (p.1, p.2)
    (left_out Stored (g.S.Shelf.refuses g.N.Naming.place) g.S.Shelf.honest
    (asking c.args.inquiry.now) c.in_err-refuse_beside.field-0.0 _ _ _ _
    c.in_ok-opened.ensures.opened c.in_ok-opened.ensures.given
    c.in_err-refuse_beside.ensures.refused)

pub returns-in_err-refuse_beside-clause-left : goal.returns-in_err-refuse_beside-clause-left
returns-in_err-refuse_beside-clause-left g c =
    let p = err_from_is_err_and c.from_residual-in_err-refuse_beside.result
    c.from_residual-in_err-refuse_beside.ensures.1 in
    let Stored : ℕ → List ℕ → Type 0 = λ number image. (r : g.row.S-Receipt.Denot)
    × g.S.Shelf.is_of g.N.Naming.place r × (g.S.Receipt.TableReceipt.number r ≡ number)
    × (g.S.Receipt.TableReceipt.image r ≡ image) in
    rw (p.1, p.2)
    (left_out_leaves Stored (g.S.Shelf.refuses g.N.Naming.place) g.S.Shelf.honest
    (asking c.args.inquiry.now) c.in_err-refuse_beside.field-0.0 _ _ _
    c.args.inquiry.now.beside.now _
    c.in_err-refuse_beside.ensures.refused.1)

pub returns-in_err-refuse_beside-clause-reads : goal.returns-in_err-refuse_beside-clause-reads
returns-in_err-refuse_beside-clause-reads g c = c.in_ok-opened.ensures.reads
