-- The laws follow from the rule.
use Rattle.std.proofs.Common.{◌≡◌, ◌≢◌, ℕ, suc, ◌+◌, ◌-◌, ◌*◌, ◌^◌, ◌<◌, take, replicate, Option, Some, None, List, [], ◌∷◌, cond, eqb, eq-eqb, ne_eqb, get_or, refl, sym, ap, ◌∙◌, subst, arith}
use Rattle.std.proofs.lemmas.List.Sums.{sum_by-cons}
use Rattle.std.proofs.lemmas.List.{length-replicate}
use Rattle.std.specs.Prelude.{slice_get, sum_by}
use mathlib.Core.Logic.{dite}
use native.Mathlib.Decide.{ℕ_discrete}
use Rattle.lsm_pins.specs.declared.view.View.{View}
use Rattle.lsm_pins.specs.declared.slot_record.SlotRecord.{SlotRecord}
use Rattle.lsm_pins.specs.Head.{head_of, count_in}
use Rattle.lsm_pins.specs.SlotRecord.{IsInUse, unused}
use Rattle.lsm_pins.specs.View.{first_view, held_at, pin_at}
use Rattle.lsm_pins.specs.declared.rule.Start.{Start}
use Rattle.lsm_pins.proofs.SeatSteps.{opens}
use Rattle.lsm_pins.specs.Rule.{BoardState, IsKept, current_pins, current_slot}
use Rattle.lsm_pins.specs.Laws.{BoardLaw, EachStartHasAState, HeldIsNotFree, IsPublisher, MissedIsHeld, NoLawIsAbsurd}
use Rattle.lsm_pins.proofs.PinSteps.{head_count}
use Rattle.lsm_pins.proofs.SlotLemmas.{in_use-has_id}
use Rattle.lsm_pins.proofs.ViewLemmas.{free_apart}

-- a view that holds the slot
abbrev SomeHolder : ℕ → List View → Type 0
SomeHolder s views = (y id : ℕ) × (v : View) × (slice_get views y ≡ Some v) × (v.held ≡ Some (id, s))

in_front : (s : ℕ) (x : View) (xs : List View) (pin : Option (ℕ × ℕ)) → x.held ≡ pin → (pin_at s x.held ≡ 0 → SomeHolder s (x ∷ xs)) → SomeHolder s (x ∷ xs)
in_front s x xs None is behind = behind (ap (pin_at s) is)
in_front s x xs (Some (i, t)) is behind = dite (ℕ_discrete s t)
    (λ same. (0, i, x, refl, is ∙ ap (λ k. Some (i, k)) (sym same)))
    (λ other. behind (ap (pin_at s) is ∙ ap (λ b. cond b 1 0) (ne_eqb s t other)))

some_holder : (s : ℕ) (views : List View) → 0 < sum_by (held_at s) views → SomeHolder s views
some_holder s [] more = absurd (omega arith)
some_holder s (x ∷ xs) more =
    let sum = sum_by-cons (held_at s) x xs in
    let rest : 0 < sum_by (held_at s) xs → SomeHolder s xs = some_holder s xs in
    in_front s x xs x.held refl (λ none. let r = rest (omega arith) in (suc r.0, r.1, r.2, r.3, r.4))

module _ (words : List ℕ) (views : List View) (kept : IsKept words views) (p : View) (publisher : IsPublisher views p) where
  abbrev b : BoardState
  b = kept.0

  at : slice_get views publisher.seat ≡ Some p
  at = publisher.at

  mine : (publisher.seat ≡ b.seat) × (p.id ≡ b.id) × (p.told_id ≡ b.id) × (p.records ≡ b.records)
  mine = (kept.1.fits publisher.seat p at publisher.live).publishes publisher.publishes

  slot_is : current_slot b ≡ p.slot
  slot_is = ap b.slot_of (sym mine.1) ∙ (kept.1.fits publisher.seat p at publisher.live).seen_slot

  count_is : count_in (get_or words 0 0) ≡ current_pins b views
  count_is = head_count b words views kept.1

  in_board : (s : ℕ) (r : SlotRecord) → slice_get p.records s ≡ Some r → slice_get b.records s ≡ Some r
  in_board s r e = ap (λ rs. slice_get rs s) (sym mine.3) ∙ e

  retired : (s : ℕ) (r : SlotRecord) → slice_get p.records s ≡ Some r → s ≢ p.slot → r.total ≡ get_or words (suc s) 0 + sum_by (held_at s) views
  retired s r e other =
      let was = kept.1.balance s r (in_board s r e) in
      let off : cond (eqb s (current_slot b)) (current_pins b views) 0 ≡ 0 = ap (λ c. cond c (current_pins b views) 0) (ne_eqb s (current_slot b) (λ z. other (z ∙ slot_is))) in
      omega arith

  pub law : BoardLaw words views p
  law = record {
    head = kept.1.head ∙ (λ i. head_of (slot_is i) (sym mine.1 i) (sym count_is i));
    in_use =
        let a : IsInUse b.records p.slot b.id = subst (λ s. IsInUse b.records s b.id) slot_is kept.1.current_is in
        let d : IsInUse b.records p.slot p.id = subst (λ i. IsInUse b.records p.slot i) (sym mine.1) a in
        in_use-has_id p.records p.slot p.id (subst (λ rs. IsInUse rs p.slot p.id) (sym mine.3) d);
    current = λ r e.
        let was = kept.1.balance p.slot r (in_board p.slot r e) in
        let on : cond (eqb p.slot (current_slot b)) (current_pins b views) 0 ≡ current_pins b views = ap (λ c. cond c (current_pins b views) 0) (eq-eqb p.slot (current_slot b) (sym slot_is)) in
        let count = count_is in
        omega arith;
    retired = retired;
    free = λ s r e f.
        let none_held = kept.1.free s r (in_board s r e) f in
        let other : s ≢ p.slot = λ z. free_apart b.records s (current_slot b) b.id r (in_board s r e) f kept.1.current_is (z ∙ sym slot_is) in
        let all = retired s r e other in
        (omega arith, none_held);
    none_later = λ y v e. let a = (kept.1.small y v e).seen in let m = mine.1 in omega arith;
    one_slot = λ y z v w ey ez lv lw same. sym (kept.1.fits y v ey lv).seen_slot ∙ ap b.slot_of same ∙ (kept.1.fits z w ez lw).seen_slot;
    known = kept.1.known;
  }

  pub not_free : HeldIsNotFree words views p
  not_free y i s v e l pin = in_use-has_id p.records s i (subst (λ rs. IsInUse rs s i) (sym mine.3) ((kept.1.fits y v e l).holds i s pin).1)

  pub missed : MissedIsHeld words views p
  missed s r e other odd =
      let all = retired s r e other in
      let found = some_holder s views (omega arith) in
      (found.0, found.1, found.2, found.3, (kept.1.small found.0 found.2 found.3).holder found.1 s found.4, found.4)

-- the state of a board just made
pub some_state : EachStartHasAState
some_state start some few ids = (
  record {
    state = record { words = take (start.slots + 1) (start.id * 2 ^ 30 ∷ replicate 64 0); homes = []; views = first_view start ∷ [] };
    kept = opens start.slots start.id some few ids;
    view = first_view start;
    publisher = record { seat = 0; at = refl; live = refl; publishes = refl };
    slots_are = let e = length-replicate (start.slots - 1) unused in omega arith;
    begun = omega arith;
  },
  refl,
)

pub not_absurd : NoLawIsAbsurd
not_absurd law =
    let start : Start = record { slots = 3; id = 0 } in
    let s = (some_state start (omega arith) (omega arith) (omega arith)).0 in
    law start s.state s.kept s.view s.publisher
