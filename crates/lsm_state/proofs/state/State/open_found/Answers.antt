use Rattle.std.proofs.Common.{◌≡◌, ℕ, List, refl, sym, subst, inl, inr}
use Rattle.lsm_state.proofs.OpenLaws.{begun_anew}
use Rattle.lsm_state.proofs.UnjudgedLaws.{admitted_then, begun_unjudged, found_then}
use Rattle.lsm_state.proofs.UnjudgedLaws.{openable_admitted, refused_of, unbegun, unindexed}
use Rattle.lsm_state.proofs.state.State.open_found.Goals as goal

pub begin_admitted-state-requires-clause-openable :
    goal.begin_admitted-state-requires-clause-openable
begin_admitted-state-requires-clause-openable g c κs within =
    let Keeps : ℕ → List ℕ → Type 0 = g.S.Finding.keeps g.N.Naming.place in
    let r = c.args.recovered in
    let a = c.in-Ok.admitted in
    let was = c.requires.manifest.0 in
    let told = c.requires.manifest.1 in
    let honest : Type 0 = g.S.Shelf.honest × g.V.Vouching.holds in (
      a.rest,
      openable_admitted honest Keeps r.shape r.journal.limit a.journal a.version a.rest a.next was _
          (λ x y. c.found_is_recorded.ensures a.rest a.journal r.shape a.version x y)
          (λ is. (c.in-Ok.ensures.found was told is).loaded.sound is)
          (c.in-Ok.ensures.admitted was told),
    )

pub returns-in-Ok-opened-clause-begun : goal.returns-in-Ok-opened-clause-begun
returns-in-Ok-opened-clause-begun g c = λ was told.
    let Keeps : ℕ → List ℕ → Type 0 = g.S.Finding.keeps g.N.Naming.place in
    let r = c.args.recovered in
    let a = c.in-Ok.admitted in
    let found = rw c.requires.limit at (c.in-Ok.ensures.admitted was told) in
    let then = admitted_then Keeps r.shape _ a.journal a.version a.rest a.next was _ _ found
    c.open_indexes-opened.ensures.told in
    begun_unjudged c.begin_admitted-state.result Keeps r.shape _ c.args.options c.args.board.0
    c.args.board.1.items a.version a.journal a.rest a.next was _ _ then
    c.begin_admitted-state.ensures.anew c.begin_admitted-state.ensures.opened

pub returns-in-Ok-opened-clause-judged : goal.returns-in-Ok-opened-clause-judged
returns-in-Ok-opened-clause-judged g c = λ was told is holds.
    let honest : Type 0 = g.S.Shelf.honest × g.V.Vouching.holds in
    let a = c.in-Ok.admitted in
    let found = rw c.requires.limit at (c.in-Ok.ensures.found was told (is, holds)) in
    let then = found_then honest _ a.journal a.version a.rest a.next was _ _ found
    c.open_indexes-opened.ensures.told in
    begun_anew c.begin_admitted-state.result honest _ c.args.options c.args.board.0
    c.args.board.1.items a.version a.journal a.rest a.next was _ _ then
    c.begin_admitted-state.ensures.anew c.begin_admitted-state.ensures.opened

pub returns-in-Ok-opened-clause-refused : goal.returns-in-Ok-opened-clause-refused
returns-in-Ok-opened-clause-refused g c = λ was told.
    let Keeps : ℕ → List ℕ → Type 0 = g.S.Finding.keeps g.N.Naming.place in
    let Refused = g.S.Shelf.refuses g.N.Naming.place in
    let r = c.args.recovered in
    let a = c.in-Ok.admitted in
    let found = rw c.requires.limit at (c.in-Ok.ensures.admitted was told) in
    let then = admitted_then Keeps r.shape _ a.journal a.version a.rest a.next was _ _ found
    c.open_indexes-opened.ensures.told in
    refused_of c.begin_admitted-state.result _ _ (λ e n. unbegun Keeps Refused
    g.S.Shelf.honest r.shape _ a.journal a.version a.rest a.next was _ _ e then n)
    c.begin_admitted-state.ensures.refused

pub returns-in-Err-opened-clause-refused : goal.returns-in-Err-opened-clause-refused
returns-in-Err-opened-clause-refused g c = λ was told.
    let Keeps : ℕ → List ℕ → Type 0 = g.S.Finding.keeps g.N.Naming.place in
    let Refused = g.S.Shelf.refuses g.N.Naming.place in
    let r = c.args.recovered in
    let a = c.in-Ok.admitted in
    let fault = c.in-Err-opened.fault in
    let found = rw c.requires.limit at (c.in-Ok.ensures.admitted was told) in
    let opened = c.open_indexes-opened.ensures in
    unindexed Keeps Refused g.S.Shelf.honest r.shape _ a.journal a.version a.rest a.next fault was
    _ _ found (rw c.in-Err-opened.is at opened.refused) (rw c.in-Err-opened.is at opened.cause)
    opened.told
