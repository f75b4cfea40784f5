use Rattle.std.proofs.Common.{◌≡◌, ℕ, ◌+◌, ◌-◌, ◌^◌, ◌<◌, false, ap, ◌∙◌, refl, sym, subst, arith}
use Rattle.std.proofs.lemmas.Result.{err_from_is_err_and}
use Rattle.lsm_codec.specs.Lists.{Has}
use Rattle.lsm_shelf.specs.Told.{Counted, TakenIs}
use Rattle.lsm_version.specs.Versions.{Levels, numbers_in}
use Rattle.lsm_journal.specs.HeldManifest.{HeldManifest}
use Rattle.lsm_journal.specs.Recorded.{IsRecorded}
use Rattle.lsm_journal.specs.Sending.{RollsOver}
use Rattle.lsm_journal.specs.declared.open_fault.OpenFault.TheVariants as opening
use Rattle.lsm_state.specs.Held.{Held, IsLawfulState}
use Rattle.lsm_state.specs.Opening.{IsNotAnew}
use Rattle.lsm_state.specs.Options.{Fits}
use Rattle.lsm_state.proofs.OpenLaws.{lawful_opened}
use Rattle.lsm_state.proofs.state.State.begin.Goals as goal

pub roll_over-requires-clause-recorded : goal.roll_over-requires-clause-recorded
roll_over-requires-clause-recorded g c κs within =
    let rest = c.requires.openable.0 in
    let r = c.requires.openable.1.recorded in
    let own : IsRecorded rest c.state.inside.journal c.state.inside.slots.version
    c.state.inside.next = subst
    (λ (x : Held). IsRecorded rest x.journal x.slots.version x.next) (sym c.state.view_is) r in (
      rest,
      subst (λ (v : Levels). IsRecorded rest c.state.inside.journal v c.state.inside.next)
          (sym c.version-version.ensures.version) own,
    )

-- the journal of a roll over that was refused is the one before it
pub invariant_of-state : goal.invariant_of-state
invariant_of-state g c =
    let s : Held = c.args.self in
    let lawful : Held → Type 0 = IsLawfulState g.S.Shelf.honest g.N.Boarded.board in
    let j : HeldManifest = c.roll_over.new.self in
    let same : s.journal ≡ j = sym (c.in_err-roll_over.ensures.err
    ∙ ap (λ (x : Held). x.journal) c.state.view_is) in (
      subst (λ (x : Held). lawful (record x { journal = j })) (sym c.state.view_is)
          (subst (λ (k : HeldManifest). lawful (record s { journal = k })) same
          (subst lawful c.state.view_is c.state.invariant.0)),
      c.state.invariant.1,
    )

pub invariant_of-state-2 : goal.invariant_of-state-2
invariant_of-state-2 g c =
    let s : Held = c.args.self in
    let v : Levels = s.slots.version in
    let f = c.requires.openable.1 in
    let j : HeldManifest = c.roll_over.new.self in
    let n : ℕ = c.state.inside.next + 1 in
    let next : c.state.inside.next ≡ s.next = ap (λ (x : Held). x.next) c.state.view_is in
    let at : c.version-version.result.now ≡ v = c.version-version.ensures.version
    ∙ ap (λ (x : Held). x.slots.version) c.state.view_is in
    let recorded : IsRecorded 0 j v n =
    subst (λ (w : Levels). IsRecorded 0 j w n) at c.in_ok-roll_over.ensures.recorded in
    let below : (m : ℕ) → Has (numbers_in v) m → m < n =
    λ m k. (let lt = f.below m k in omega arith) in (
      subst (λ (x : Held). IsLawfulState g.S.Shelf.honest g.N.Boarded.board
          (record x { journal = j; next = n; halted = false }))
          (sym (c.state.view_is ∙ c.requires.opened))
          (lawful_opened g.S.Shelf.honest g.N.Boarded.board s.options s.slots.board s.pinners v j
          n _ 0 (subst (λ (x : Held). Fits x.options) c.state.view_is c.state.invariant.0.fits)
          c.requires.board f.sound recorded (λ e. refl) below),
      c.state.invariant.1,
    )

pub returns-then-number-clause-refused : goal.returns-then-number-clause-refused
returns-then-number-clause-refused g c =
    (ap (λ (x : Held). x.next) (sym c.state.view_is) ∙ c.if-number.true, refl)

pub returns-in_err-roll_over-clause-refused : goal.returns-in_err-roll_over-clause-refused
returns-in_err-roll_over-clause-refused g c =
    let p = err_from_is_err_and c.from_residual.result c.from_residual.ensures.1 in
    let Refused = g.S.Shelf.refuses g.N.Naming.place in
    let e = c.in_err-roll_over.field-0.0 in
    let h : HeldManifest = c.state.inside.journal in
    let n : ℕ = c.state.inside.next in
    let read = c.args.shelf.now in
    let is = c.roll_over.new.shelf in
    let own : IsNotAnew Refused c.version-version.result.now n h (opening.Shelf e) read is = (
      c.in_err-roll_over.ensures.cause,
      c.in_err-roll_over.ensures.asked,
      c.in_err-roll_over.ensures.unsent,
    ) in
    rw (p.1, p.2) (subst
    (λ (x : Held). IsNotAnew Refused x.slots.version x.next x.journal (opening.Shelf e) read is)
    c.state.view_is
    (subst (λ (v : Levels). IsNotAnew Refused v n h (opening.Shelf e) read is)
    c.version-version.ensures.version own))

pub returns-clause-anew : goal.returns-clause-anew
returns-clause-anew g c =
    let s : Held = c.args.self in
    let h : HeldManifest = c.state.inside.journal in
    let j : HeldManifest = c.roll_over.new.self in
    let n : ℕ = c.state.inside.next in
    let read = c.args.shelf.now in
    let is = c.roll_over.new.shelf in
    let next : n ≡ s.next = ap (λ (x : Held). x.next) c.state.view_is in
    let fits = c.requires.openable.1.fits in
    let rolls = subst (λ (v : Levels). RollsOver v n h j read is) c.version-version.ensures.version
    c.in_ok-roll_over.ensures.rolls in
    record {
      rolls = subst (λ (x : Held). RollsOver x.slots.version x.next x.journal j read is)
          c.state.view_is rolls;
      after = ap (λ (m : ℕ). m + 1) next;
      fits = omega (arith, fits, next);
    }

pub returns-clause-opened : goal.returns-clause-opened
returns-clause-opened g c =
    let j : HeldManifest = c.roll_over.new.self in
    let n : ℕ = c.state.inside.next + 1 in
    ap (λ (x : Held). let t : Held = record x { journal = j; next = n; halted = false } in t)
    (c.state.view_is ∙ c.requires.opened)
