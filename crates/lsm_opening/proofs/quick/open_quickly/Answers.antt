use Rattle.std.proofs.Common.{◌≡◌, ◌∙◌, ℕ, List, ap, inl, inr, refl, subst, sym}
use Rattle.lsm_shelf.specs.Told.{Becomes, Told, finding}
use Rattle.lsm_state.specs.Options.{limit_of}
use Rattle.lsm_opening.specs.Parts.{AreOf, Made}
use Rattle.lsm_opening.proofs.QuickLaws.{opens_quickly, refused_quickly}
use Rattle.lsm_opening.proofs.quick.open_quickly.Goals as goal

pub named_parts-requires-clause-named : goal.named_parts-requires-clause-named
named_parts-requires-clause-named g c κs within = subst
    (λ (m : Made). AreOf m.options g.N.Naming.registry g.N.Boarded.board g.N.Historied.history m)
    (sym c.vouched.ensures) c.requires.named

pub reopen_quickly-requires-clause-manifest : goal.reopen_quickly-requires-clause-manifest
reopen_quickly-requires-clause-manifest g c κs within =
    let r = c.args.recovered in
    let m = c.requires.manifest in (
      m.0,
      subst (Becomes (finding r.journal.number r.journal.bytes m.0))
          (sym (c.of-shelf.ensures ∙ c.of-vouched.ensures)) m.1,
    )

pub reopen_quickly-requires-clause-limit : goal.reopen_quickly-requires-clause-limit
reopen_quickly-requires-clause-limit g c κs within = c.requires.limit
    ∙ ap limit_of (sym (c.in-Ok.ensures.options ∙ ap (λ (m : Made). m.options) c.vouched.ensures))

pub returns-in-Some-clause-refused : goal.returns-in-Some-clause-refused
returns-in-Some-clause-refused g c = λ was told.
    let r = c.args.recovered in
    inl (
      c.in-Some.number,
      refl,
      record {
        held = r.journal;
        shape = r.shape;
        rest = r.rest;
        recovered = c.requires.recovered;
        told = subst (Becomes (finding r.journal.number r.journal.bytes was))
            (sym (c.of-shelf.ensures ∙ c.of-vouched.ensures)) told;
        holds = c.in-Some.ensures;
      },
    )

pub returns-in-Err-clause-refused : goal.returns-in-Err-clause-refused
returns-in-Err-clause-refused g c = λ was told.
    let r = c.args.recovered in
    inr (inl (
      c.in-Err.ensures.memory,
      record {
        held = r.journal;
        shape = r.shape;
        rest = r.rest;
        recovered = c.requires.recovered;
        told = subst (Becomes (finding r.journal.number r.journal.bytes was))
            (sym (c.of-shelf.ensures ∙ c.of-vouched.ensures)) told;
        holds = tt;
      },
    ))

pub returns-in-Ok-clause-opened : goal.returns-in-Ok-clause-opened
returns-in-Ok-clause-opened g c = λ was told.
    let Keeps : ℕ → List ℕ → Type 0 = g.S.Finding.keeps g.N.Naming.place in
    let r = c.args.recovered in
    let made = c.reopen_quickly.ensures in
    let same = c.in-Ok.ensures.options ∙ ap (λ (m : Made). m.options) c.vouched.ensures in
    let before = subst (Becomes (finding r.journal.number r.journal.bytes was))
    (sym (c.of-shelf.ensures ∙ c.of-vouched.ensures)) told in
    opens_quickly c.reopen_quickly.result.0 Keeps g.S.Shelf.honest g.V.Vouching.holds _ _ r.shape
    c.args.logs.now was _ same c.in-None.ensures (made.begun was before) made.state made.indexes
    (made.judged was before)

pub returns-in-Ok-clause-refused : goal.returns-in-Ok-clause-refused
returns-in-Ok-clause-refused g c = λ was told.
    let Keeps : ℕ → List ℕ → Type 0 = g.S.Finding.keeps g.N.Naming.place in
    let r = c.args.recovered in
    let same = c.in-Ok.ensures.options ∙ ap (λ (m : Made). m.options) c.vouched.ensures in
    let before = subst (Becomes (finding r.journal.number r.journal.bytes was))
    (sym (c.of-shelf.ensures ∙ c.of-vouched.ensures)) told in
    refused_quickly c.reopen_quickly.result.0 Keeps (g.S.Shelf.refuses g.N.Naming.place)
    g.S.Shelf.honest _ _ r.shape c.args.logs.now was _ same
    (c.reopen_quickly.ensures.refused was before)
