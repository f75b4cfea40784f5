use Rattle.std.proofs.Common.{◌≡◌, ◌∙◌, ℕ, List, ap, subst, sym}
use Rattle.lsm_state.specs.Options.{limit_of}
use Rattle.lsm_state.specs.Unjudged.{IsBegunUnjudged, IsUnjudgedRefusal}
use Rattle.lsm_state.specs.declared.options.Options.{Options}
use Rattle.lsm_opening.specs.Quick.{IsOpenedWith}
use Rattle.lsm_opening.specs.Starting.{IsReopenedWith}
use Rattle.lsm_opening.proofs.quick.reopen_quickly.Goals as goal

pub open_found-opened-requires-clause-limit : goal.open_found-opened-requires-clause-limit
open_found-opened-requires-clause-limit g c κs within =
    c.requires.limit ∙ ap limit_of (sym c.parts.view_is)

pub returns-in-Ok-clause-begun : goal.returns-in-Ok-clause-begun
returns-in-Ok-clause-begun g c = λ was told.
    let Keeps : ℕ → List ℕ → Type 0 = g.S.Finding.keeps g.N.Naming.place in
    let s = c.in-Ok.state in
    let is = c.open_found-opened.result.1 in
    subst (λ (o : Options). IsBegunUnjudged Keeps c.args.recovered.shape (limit_of o) s.journal
    s.slots.version s.next was is) c.parts.view_is
    (rw c.in-Ok.is at (c.open_found-opened.ensures.begun was told))

pub returns-in-Ok-clause-state : goal.returns-in-Ok-clause-state
returns-in-Ok-clause-state g c =
    subst (λ (o : Options). IsOpenedWith o c.in-Ok.state) c.parts.view_is (record {
      publisher = c.parts.inside.publisher;
      pinners = c.parts.inside.pinners.items;
      state = rw c.in-Ok.is at c.open_found-opened.ensures.opened;
    })

pub returns-in-Ok-clause-judged : goal.returns-in-Ok-clause-judged
returns-in-Ok-clause-judged g c = λ was told honest holds.
    let Kept : Type 0 = g.S.Shelf.honest × g.V.Vouching.holds in
    let is = c.open_found-opened.result.1 in
    subst (λ (o : Options). IsReopenedWith Kept o c.in-Ok.state was is) c.parts.view_is (record {
      publisher = c.parts.inside.publisher;
      pinners = c.parts.inside.pinners.items;
      state = rw c.in-Ok.is at c.open_found-opened.ensures.opened;
      begun = rw c.in-Ok.is at (c.open_found-opened.ensures.judged was told honest holds);
    })

pub returns-in-Err-clause-refused : goal.returns-in-Err-clause-refused
returns-in-Err-clause-refused g c = λ was told.
    let Keeps : ℕ → List ℕ → Type 0 = g.S.Finding.keeps g.N.Naming.place in
    let Refused = g.S.Shelf.refuses g.N.Naming.place in
    let fault = c.in-Err.fault in
    let is = c.open_found-opened.result.1 in (
      fault,
      c.of_open.ensures,
      subst (λ (o : Options). IsUnjudgedRefusal Keeps Refused g.S.Shelf.honest
          c.args.recovered.shape (limit_of o) fault was is) c.parts.view_is
          (rw c.in-Err.is at (c.open_found-opened.ensures.refused was told)),
    )
