use Rattle.std.proofs.Common.{◌≡◌, ℕ, List}
use Rattle.std.proofs.lemmas.Result.{err_from_is_err_and}
use Rattle.lsm_cmd_read.specs.Answers.{asking}
use Rattle.lsm_cmd_read.proofs.QuickLaws.{quickly_done, quickly_left_out, quickly_stopped}
use Rattle.lsm_cmd_read.proofs.QuickLaws.{quickly_unopened, quickly_without_room}
use Rattle.lsm_cmd_read.proofs.quick.perform_admitted.Goals as goal

pub returns-clause-done : goal.returns-clause-done
returns-clause-done g c = λ was told.
    let Files : ℕ → List ℕ → Type 0 = g.S.Finding.keeps g.N.Naming.place in
    let Stored : ℕ → List ℕ → Type 0 = λ number image. (r : g.row.S-Receipt.Denot)
    × g.S.Shelf.is_of g.N.Naming.place r × (g.S.Receipt.TableReceipt.number r ≡ number)
    × (g.S.Receipt.TableReceipt.image r ≡ image) in
    quickly_done Files Stored g.S.Shelf.honest c.args.recovered.shape c.read_on.result
    (asking c.args.inquiry.now) was _ _ _ _ _ _ _ _ _ c.read_on.ensures.told
    (c.in_ok-version.ensures.admitted was told) (c.in_ok-version.ensures.holds was told)
    c.in_ok-refuse_beside.ensures.whole (c.read_on.ensures.done _) c.tell_notes.ensures.quiet
    c.read_on.ensures.quiet

pub returns-clause-refused : goal.returns-clause-refused
returns-clause-refused g c = λ was told.
    let Files : ℕ → List ℕ → Type 0 = g.S.Finding.keeps g.N.Naming.place in
    let Stored : ℕ → List ℕ → Type 0 = λ number image. (r : g.row.S-Receipt.Denot)
    × g.S.Shelf.is_of g.N.Naming.place r × (g.S.Receipt.TableReceipt.number r ≡ number)
    × (g.S.Receipt.TableReceipt.image r ≡ image) in
    quickly_stopped Files Stored g.S.Shelf.honest c.args.recovered.shape
    (g.S.Shelf.refuses g.N.Naming.place) c.read_on.result (asking c.args.inquiry.now) was _ _ _
    _ _ _ c.read_on.ensures.told
    (c.in_ok-version.ensures.admitted was told) (c.in_ok-version.ensures.holds was told)
    c.read_on.ensures.fault c.read_on.ensures.left

pub returns-in_err-registry-clause-refused : goal.returns-in_err-registry-clause-refused
returns-in_err-registry-clause-refused g c = λ was told.
    let p = err_from_is_err_and c.from_residual.result c.from_residual.ensures.1 in
    let Files : ℕ → List ℕ → Type 0 = g.S.Finding.keeps g.N.Naming.place in
    let Stored : ℕ → List ℕ → Type 0 = λ number image. (r : g.row.S-Receipt.Denot)
    × g.S.Shelf.is_of g.N.Naming.place r × (g.S.Receipt.TableReceipt.number r ≡ number)
    × (g.S.Receipt.TableReceipt.image r ≡ image) in
    let r = c.args.recovered in
    rw (p.1, p.2)
    (quickly_without_room Files Stored g.S.Shelf.honest r.shape
    (g.S.Shelf.refuses g.N.Naming.place) (asking c.args.inquiry.now) r.rest r.journal was _ _
    c.requires.recovered told)

pub returns-in_err-version-clause-refused : goal.returns-in_err-version-clause-refused
returns-in_err-version-clause-refused g c = λ was told.
    let p = err_from_is_err_and c.from_residual-in_err-version.result
    c.from_residual-in_err-version.ensures.1 in
    let Files : ℕ → List ℕ → Type 0 = g.S.Finding.keeps g.N.Naming.place in
    let Stored : ℕ → List ℕ → Type 0 = λ number image. (r : g.row.S-Receipt.Denot)
    × g.S.Shelf.is_of g.N.Naming.place r × (g.S.Receipt.TableReceipt.number r ≡ number)
    × (g.S.Receipt.TableReceipt.image r ≡ image) in
    rw (p.1, p.2)
    (quickly_unopened Files Stored g.S.Shelf.honest c.args.recovered.shape
    (g.S.Shelf.refuses g.N.Naming.place) (asking c.args.inquiry.now) c.in_err-version.field-0.0
    was _ _
    (c.in_err-version.ensures.refused was told))

pub returns-in_err-refuse_beside-clause-refused : goal.returns-in_err-refuse_beside-clause-refused
returns-in_err-refuse_beside-clause-refused g c = λ was told.
    let p = err_from_is_err_and c.from_residual-in_err-refuse_beside.result
    c.from_residual-in_err-refuse_beside.ensures.1 in
    let Files : ℕ → List ℕ → Type 0 = g.S.Finding.keeps g.N.Naming.place in
    let Stored : ℕ → List ℕ → Type 0 = λ number image. (r : g.row.S-Receipt.Denot)
    × g.S.Shelf.is_of g.N.Naming.place r × (g.S.Receipt.TableReceipt.number r ≡ number)
    × (g.S.Receipt.TableReceipt.image r ≡ image) in
    rw (p.1, p.2)
    (quickly_left_out Files Stored g.S.Shelf.honest c.args.recovered.shape
    (g.S.Shelf.refuses g.N.Naming.place) (asking c.args.inquiry.now)
    c.in_err-refuse_beside.field-0.0 was _ _ _ _
    (c.in_ok-version.ensures.admitted was told) (c.in_ok-version.ensures.holds was told)
    c.in_err-refuse_beside.ensures.refused)
