use Rattle.std.proofs.Common.{◌≡◌, ℕ, List}
use Rattle.lsm_cmd_read.specs.Answers.{asking}
use Rattle.lsm_cmd_read.proofs.QuickLaws.{quickly_from_shape, quickly_refused_from}
use Rattle.lsm_cmd_read.proofs.quick.begin_recovered.Goals as goal

pub returns-in-Ok-clause-done : goal.returns-in-Ok-clause-done
returns-in-Ok-clause-done g c = λ was told.
    let Files : ℕ → List ℕ → Type 0 = g.S.Finding.keeps (g.S.Shelf.told c.args.shelf).place in
    let Stored : ℕ → List ℕ → Type 0 = λ number image. (r : g.row.S-Receipt.Denot)
    × g.S.Shelf.is_of (g.S.Shelf.told c.args.shelf).place r
    × (g.S.Receipt.TableReceipt.number r ≡ number)
    × (g.S.Receipt.TableReceipt.image r ≡ image) in
    quickly_from_shape Files Stored g.S.Shelf.honest c.perform_vouched.result.0
    c.args.recovered.shape (asking c.args.inquiry.now) _ _ _ _
    (c.perform_vouched.ensures.done was told)

pub returns-in-Ok-clause-refused : goal.returns-in-Ok-clause-refused
returns-in-Ok-clause-refused g c = λ was told.
    let Files : ℕ → List ℕ → Type 0 = g.S.Finding.keeps (g.S.Shelf.told c.args.shelf).place in
    let Stored : ℕ → List ℕ → Type 0 = λ number image. (r : g.row.S-Receipt.Denot)
    × g.S.Shelf.is_of (g.S.Shelf.told c.args.shelf).place r
    × (g.S.Receipt.TableReceipt.number r ≡ number)
    × (g.S.Receipt.TableReceipt.image r ≡ image) in
    quickly_refused_from Files Stored g.S.Shelf.honest
    (g.S.Shelf.refuses (g.S.Shelf.told c.args.shelf).place) c.perform_vouched.result.0
    c.args.recovered.shape (asking c.args.inquiry.now) _ _
    (c.perform_vouched.ensures.refused was told)
