use Rattle.std.proofs.Common.{◌≡◌, ◌∙◌, ℕ, List, IfErr, OnOk, sym, subst}
use Rattle.lsm_shelf.specs.Told.{Becomes, Told, finding}
use Rattle.lsm_cmd_read.specs.Answers.{asking, moment}
use Rattle.lsm_cmd_read.specs.Quick.{IsQuicklyLookedInto, IsUndone}
use Rattle.lsm_cmd_read.proofs.quick.perform_vouched.Goals as goal

pub returns-clause-done : goal.returns-clause-done
returns-clause-done g c = λ was told.
    let Files : ℕ → List ℕ → Type 0 = g.S.Finding.keeps g.N.Naming.place in
    let Stored : ℕ → List ℕ → Type 0 = λ number image. (r : g.row.S-Receipt.Denot)
    × g.S.Shelf.is_of g.N.Naming.place r × (g.S.Receipt.TableReceipt.number r ≡ number)
    × (g.S.Receipt.TableReceipt.image r ≡ image) in
    let r = c.args.recovered in
    let before : Becomes (finding r.journal.number r.journal.bytes was) c.of-named.result =
    subst (Becomes (finding r.journal.number r.journal.bytes was))
    (sym (c.of-named.ensures ∙ c.of-vouched.ensures)) told in
    subst (λ (is : Told). OnOk c.perform_admitted-done.result
    (IsQuicklyLookedInto (asking c.args.inquiry.now) Files Stored
    (g.S.Shelf.honest × g.V.Vouching.holds) r.shape
    (moment was (g.O.Write.contents c.args.out.now))
    (moment is (g.O.Write.contents c.perform_admitted-done.new.out))
    (g.E.Write.contents c.args.err.now) (g.E.Write.contents c.perform_admitted-done.new.err)))
    (sym (c.into_shelf-2.ensures ∙ c.into_shelf.ensures.told))
    (c.perform_admitted-done.ensures.done was before)

pub returns-clause-refused : goal.returns-clause-refused
returns-clause-refused g c = λ was told.
    let Files : ℕ → List ℕ → Type 0 = g.S.Finding.keeps g.N.Naming.place in
    let Stored : ℕ → List ℕ → Type 0 = λ number image. (r : g.row.S-Receipt.Denot)
    × g.S.Shelf.is_of g.N.Naming.place r × (g.S.Receipt.TableReceipt.number r ≡ number)
    × (g.S.Receipt.TableReceipt.image r ≡ image) in
    let r = c.args.recovered in
    let before : Becomes (finding r.journal.number r.journal.bytes was) c.of-named.result =
    subst (Becomes (finding r.journal.number r.journal.bytes was))
    (sym (c.of-named.ensures ∙ c.of-vouched.ensures)) told in
    subst (λ (is : Told). IfErr c.perform_admitted-done.result
    (λ e. IsUndone (asking c.args.inquiry.now) Files Stored (g.S.Shelf.refuses g.N.Naming.place)
    (g.S.Shelf.honest × g.V.Vouching.holds) r.shape e
    (moment was (g.O.Write.contents c.args.out.now))
    (moment is (g.O.Write.contents c.perform_admitted-done.new.out))))
    (sym (c.into_shelf-2.ensures ∙ c.into_shelf.ensures.told))
    (c.perform_admitted-done.ensures.refused was before)
