-- A pinner's steps keep the rule: pin, unpin, and a load of the head.
use Rattle.std.proofs.Common.{◌≡◌, ◌≢◌, ℕ, suc, ◌+◌, ◌%◌, ◌^◌, ◌<◌, ◌≤◌, Bool, true, false, true≢false, cond, eqb, eq-eqb, ne_eqb, Some, None, List, length, set, get_or, sym, refl, ap, ◌∙◌, subst, arith, length-set, get_or-set_same, get_or-set_other}
use Rattle.std.proofs.lemmas.List.{set-get_or}
use Rattle.atomic_table.proofs.Lists.{set_again}
use mathlib.Core.Logic.{dite}
use native.Mathlib.Decide.{ℕ_discrete}
use Rattle.atomic_table.specs.Table.{State, Me, step, keeps, Allows}
use Rattle.lsm_pins.specs.declared.view.View.{View}
use Rattle.lsm_pins.specs.declared.rule.Start.{Start}
use Rattle.lsm_pins.specs.declared.slot_record.SlotRecord.{SlotRecord}
use Rattle.lsm_pins.proofs.SumLemmas.{sum_set, sum_same, cond_add, cond_le, slot_of_head, id_of_head, count_of_head}
use Rattle.lsm_pins.proofs.ViewLemmas.{Few, pins_bound, few_set, fits_set, tied_set, free_apart}
use Rattle.lsm_pins.specs.Head.{count_in, head_of, id_in, slot_in}
use Rattle.lsm_pins.specs.SlotRecord.{IsInUse}
use Rattle.lsm_pins.specs.View.{held_at, learnt_view, parts_of, pin_at, pinned_view, pins_of, unpinned_view}
use Rattle.lsm_pins.specs.Rule.{BoardHolds, BoardState, Fits, IsBounded, IsKept, IsKeptBy, KnowsPin, current_pins, current_slot}
use Rattle.lsm_pins.specs.Step.{Learnt, NoteChecked, PinChecked, Pinned, Unpinned}
use Rattle.lsm_pins.proofs.ListLemmas.{slice_get_from_get_elem}
use Rattle.std.proofs.lemmas.Option.{slice_get_within}
use Rattle.std.specs.Prelude.{slice_get, sum_by}
use mathlib.Core.Option.{none, some}
use lib.ListN.{get_elem?}

abbrev St : Type 0
St = State (Unit {0}) View

-- no pin of the slot s in a view that holds none
pub holds_none : (v : View) → v.held ≡ None → (s : ℕ) → held_at s v ≡ 0
holds_none v e s = ap (pin_at s) e

abbrev one_if : Bool → ℕ
one_if b = cond b 1 0

pub is_one : (n : ℕ) → ◌≡◌ {A = ℕ} (cond (eqb n n) 1 0) 1
is_one n = ap (λ (b : Bool). one_if b) (eq-eqb n n refl)

pub is_none : (n m : ℕ) → n ≢ m → ◌≡◌ {A = ℕ} (cond (eqb n m) 1 0) 0
is_none n m d = ap (λ (b : Bool). one_if b) (ne_eqb n m d)

module _ (b : BoardState) (words : List ℕ) (views : List View) (h : IsKeptBy b words views) where
  -- the pins of the current id stay far from the head's next field
  pub few_pins : current_pins b views < 2 ^ 30
  few_pins = pins_bound b.id b.id views h.small h.few_parts

  pub current_below : current_slot b < 64
  current_below = let a = slice_get_within b.records (current_slot b) _ h.current_is.is in let f = h.few_slots in omega arith

  pub head_id : id_in (get_or words 0 0) ≡ b.id
  head_id = ap id_in h.head ∙ id_of_head (current_slot b) b.id (current_pins b views) h.ids few_pins

  pub head_slot : slot_in (get_or words 0 0) ≡ current_slot b
  head_slot = ap slot_in h.head ∙ slot_of_head (current_slot b) b.id (current_pins b views) h.ids few_pins

  pub head_count : count_in (get_or words 0 0) ≡ current_pins b views
  head_count = ap count_in h.head ∙ count_of_head (current_slot b) b.id (current_pins b views) h.ids few_pins

module _ (b : BoardState) (words : List ℕ) (views : List View) (by : ℕ) (v : View) (h : IsKeptBy b words views) (at : slice_get views by ≡ Some v) (live : v.live ≡ true) (reads : v.publishes ≡ false) where
  module _ (empty : v.held ≡ None) (room : v.count < 2 ^ 24) (one : v.parts ≡ 1) where
    abbrev w : View
    w = pinned_view v b.id (current_slot b)

    abbrev after : List View
    after = set views by w

    few_w : IsBounded b.id w
    few_w = let a = cond_le (eqb v.id b.id) v.count in record { few = omega arith; seen = omega arith; holder = λ i s e. live }

    few_after : Few b.id after
    few_after = few_set views by w b.id h.small few_w

    parts_after : sum_by parts_of after ≤ 62
    parts_after = let a = sum_same parts_of views by v w at refl in let f = h.few_parts in omega arith

    pins_after : current_pins b after ≡ current_pins b views + 1
    pins_after =
        let mine : pins_of b.id w ≡ pins_of b.id v + 1 = ap (λ t. cond t (pins_of b.id v + 1) 0) (eq-eqb b.id b.id refl) in
        let a = sum_set (pins_of b.id) views by v w at in
        omega arith

    held_after : (s : ℕ) → sum_by (held_at s) after ≡ sum_by (held_at s) views + cond (eqb s (current_slot b)) 1 0
    held_after s = let a = sum_set (held_at s) views by v w at in let n = holds_none v empty s in omega arith

    fit_w : Fits b by w
    fit_w = let f = h.fits by v at live in record {
      slots = f.slots;
      seen_slot = refl;
      noted = f.noted;
      noted_slot = f.noted_slot;
      told = f.told;
      told_current = f.told_current;
      holds = λ i s e. let p : ◌≡◌ {A = ℕ × ℕ} (b.id, current_slot b) (i, s) = cc in (let q : b.id ≡ i = ap (λ (z : ℕ × ℕ). z.0) p in omega arith, subst (λ (z : ℕ × ℕ). IsInUse b.records z.1 z.0) p h.current_is);
      publishes = λ e. absurd (true≢false (sym e ∙ reads));
    }

    -- whoever was told of the current id knows its slot
    knows : (j : ℕ) (u : View) → slice_get views j ≡ Some u → u.live ≡ true → KnowsPin u w
    knows j u e l = let f = h.fits j u e l in record {
      names = λ i s p le.
          let q : ◌≡◌ {A = ℕ × ℕ} (b.id, current_slot b) (i, s) = cc in
          let same : b.id ≡ i = ap (λ (z : ℕ × ℕ). z.0) q in
          let told = f.told in
          let is : u.told_id ≡ b.id = omega arith in
          subst (λ (z : ℕ × ℕ). IsInUse u.records z.1 z.0) (λ k. q k) (subst (λ (n : ℕ). IsInUse u.records (b.slot_of n) n) is f.told_current);
    }

    ties : (j : ℕ) (u : View) → j ≢ by → slice_get views j ≡ Some u → u.live ≡ true → w.live ≡ true → KnowsPin u w × KnowsPin w u
    ties j u apart e l _ = (knows j u e l, record { names = (h.known by j v u at e live l).names })

    pub pinned : IsKeptBy b (set words 0 (get_or words 0 0 + 1)) after
    pinned = record {
      width = length-set words 0 (get_or words 0 0 + 1) ∙ h.width;
      few_slots = h.few_slots;
      head =
          let wide = h.width in
          let was = h.head in
          let more = pins_after in
          get_or-set_same words 0 (get_or words 0 0 + 1) 0 (omega arith) ∙ omega arith;
      ids = h.ids;
      current_is = h.current_is;
      few_parts = parts_after;
      balance = λ s r e.
          let was = h.balance s r e in
          let more : cond (eqb s (current_slot b)) (current_pins b after) 0 ≡ cond (eqb s (current_slot b)) (current_pins b views) 0 + cond (eqb s (current_slot b)) 1 0 = ap (λ n. cond (eqb s (current_slot b)) n 0) pins_after ∙ cond_add (eqb s (current_slot b)) (current_pins b views) 1 in
          let same : get_or (set words 0 (get_or words 0 0 + 1)) (suc s) 0 ≡ get_or words (suc s) 0 = get_or-set_other words 0 (suc s) (get_or words 0 0 + 1) 0 (λ z. omega arith) in
          let holds = held_after s in
          omega arith;
      bounded = h.bounded;
      free = λ s r e f.
          let was = h.free s r e f in
          let off = is_none s (current_slot b) (free_apart b.records s (current_slot b) b.id r e f h.current_is) in
          let holds = held_after s in
          omega arith;
      small = few_after;
      fits = fits_set views by w b (λ j u _ e l. h.fits j u e l) (λ _. fit_w);
      known = tied_set views by w h.known ties (λ _. record { names = (knows by v at live).names });
    }

  -- a pin of the id i at the slot t is given back
  module _ (i t : ℕ) (pin : v.held ≡ Some (i, t)) where
    abbrev u : View
    u = unpinned_view v

    abbrev left : List View
    left = set views by u

    abbrev back : List ℕ
    back = set words (suc t) (get_or words (suc t) 0 + 1)

    named : IsInUse b.records t i
    named = ((h.fits by v at live).holds i t pin).1

    wide_enough : suc t < length words
    wide_enough = let a = slice_get_within b.records t _ named.is in let e = h.width in omega arith

    held_left : (s : ℕ) → sum_by (held_at s) left + cond (eqb s t) 1 0 ≡ sum_by (held_at s) views
    held_left s = let a = sum_set (held_at s) views by v u at in let n : held_at s v ≡ cond (eqb s t) 1 0 = ap (pin_at s) pin in omega arith

    pins_left : current_pins b left ≡ current_pins b views
    pins_left = sum_same (pins_of b.id) views by v u at refl

    balance_left : (s : ℕ) (r : SlotRecord) → slice_get b.records s ≡ Some r → r.total + cond (eqb s (current_slot b)) (current_pins b left) 0 ≡ get_or back (suc s) 0 + sum_by (held_at s) left
    balance_left s r e =
        let was = h.balance s r e in
        let count : cond (eqb s (current_slot b)) (current_pins b left) 0 ≡ cond (eqb s (current_slot b)) (current_pins b views) 0 = ap (λ n. cond (eqb s (current_slot b)) n 0) pins_left in
        let holds = held_left s in
        dite (ℕ_discrete s t)
        (λ same.
        let one : cond (eqb s t) 1 0 ≡ 1 = ap (λ n. cond (eqb n t) 1 0) same ∙ is_one t in
        let more : get_or back (suc s) 0 ≡ get_or words (suc s) 0 + 1 = subst (λ n. get_or back (suc n) 0 ≡ get_or words (suc n) 0 + 1) (sym same) (get_or-set_same words (suc t) (get_or words (suc t) 0 + 1) 0 wide_enough) in
        omega arith)
        (λ other.
        let zero_one : cond (eqb s t) 1 0 ≡ 0 = is_none s t other in
        let more : get_or back (suc s) 0 ≡ get_or words (suc s) 0 = get_or-set_other words (suc t) (suc s) (get_or words (suc t) 0 + 1) 0 (λ z. other (omega arith)) in
        omega arith)

    -- the released word is far from its end
    pub room_left : get_or words (suc t) 0 + 1 < 2 ^ 64
    room_left =
        let was = h.balance t _ named.is in
        let most = h.bounded t _ named.is in
        let count = cond_le (eqb t (current_slot b)) (current_pins b views) in
        let few = few_pins b words views h in
        let ids = h.ids in
        let here : held_at t v ≡ 1 = ap (pin_at t) pin ∙ is_one t in
        let holds = held_left t in
        let one = is_one t in
        omega arith

    pub unpinned : IsKeptBy b back left
    unpinned = record {
      width = length-set words (suc t) (get_or words (suc t) 0 + 1) ∙ h.width;
      few_slots = h.few_slots;
      head = get_or-set_other words (suc t) 0 (get_or words (suc t) 0 + 1) 0 (λ z. omega arith) ∙ h.head ∙ ap (head_of (current_slot b) b.id) (sym pins_left);
      ids = h.ids;
      current_is = h.current_is;
      few_parts = let a = sum_same parts_of views by v u at refl in let f = h.few_parts in omega arith;
      balance = balance_left;
      bounded = h.bounded;
      free = λ s r e f. let was = h.free s r e f in let holds = held_left s in omega arith;
      small = few_set views by u b.id h.small (record { few = (h.small by v at).few; seen = (h.small by v at).seen; holder = λ i s e. live });
      fits = fits_set views by u b (λ j x _ e l. h.fits j x e l) (λ _. let f = h.fits by v at live in record {
        slots = f.slots;
        seen_slot = f.seen_slot;
        noted = f.noted;
        noted_slot = f.noted_slot;
        told = f.told;
        told_current = f.told_current;
        holds = λ j s e. absurd (cc);
        publishes = f.publishes;
      });
      known = tied_set views by u h.known (λ j x _ e l _. (record { names = λ n s p le. absurd (cc) }, record { names = (h.known by j v x at e live l).names })) (λ _. record { names = λ n s p le. absurd (cc) });
    }

  -- the head is loaded
  module _ where
    abbrev z : View
    z = learnt_view v b.id (current_slot b)

    abbrev seen : List View
    seen = set views by z

    pins_seen : current_pins b seen ≡ current_pins b views
    pins_seen = sum_same (pins_of b.id) views by v z at (ap (λ t. cond t (pins_of b.id v) 0) (eq-eqb b.id b.id refl))

    held_seen : (s : ℕ) → sum_by (held_at s) seen ≡ sum_by (held_at s) views
    held_seen s = sum_same (held_at s) views by v z at refl

    pub learnt : IsKeptBy b words seen
    learnt = record {
      width = h.width;
      few_slots = h.few_slots;
      head = h.head ∙ ap (head_of (current_slot b) b.id) (sym pins_seen);
      ids = h.ids;
      current_is = h.current_is;
      few_parts = let a = sum_same parts_of views by v z at refl in let f = h.few_parts in omega arith;
      balance = λ s r e.
          let was = h.balance s r e in
          let count : cond (eqb s (current_slot b)) (current_pins b seen) 0 ≡ cond (eqb s (current_slot b)) (current_pins b views) 0 = ap (λ n. cond (eqb s (current_slot b)) n 0) pins_seen in
          let holds = held_seen s in
          omega arith;
      bounded = h.bounded;
      free = λ s r e f. held_seen s ∙ h.free s r e f;
      small = few_set views by z b.id h.small (let a = cond_le (eqb v.id b.id) v.count in let f = (h.small by v at).few in record { few = omega arith; seen = omega arith; holder = λ i s e. live });
      fits = fits_set views by z b (λ j x _ e l. h.fits j x e l) (λ _. let f = h.fits by v at live in record {
        slots = f.slots;
        seen_slot = refl;
        noted = f.noted;
        noted_slot = f.noted_slot;
        told = f.told;
        told_current = f.told_current;
        holds = f.holds;
        publishes = λ e. absurd (true≢false (sym e ∙ reads));
      });
      known = tied_set views by z h.known (λ j x _ e l _. (record { names = (h.known j by x v e at l live).names }, record { names = (h.known by j v x at e live l).names })) (λ _. record { names = (h.known by by v v at at live live).names });
    }

-- what the steps owe

pub pins_allowed : (k : Start) (slots id : ℕ) (me : Me (Unit {0}) View)
    → me.0.live ≡ true → me.0.publishes ≡ false → me.0.held ≡ None → me.0.count < 2 ^ 24 → me.0.parts ≡ 1
    → Allows (BoardHolds k) slots id me 0 (λ n. (n + 1) % 2 ^ 64) (Pinned (step slots 0 1 0 none) me)
pins_allowed k slots id me live reads empty room one s kept _ table_at small =
    let at = slice_get_from_get_elem s.views id me.0 table_at in
    let b = kept.0 in
    let h = kept.1 in
    let x : ℕ = get_or s.words 0 0 in
    let next = pinned b s.words s.views id me.0 h at live reads empty room one in
    let most = few_pins b _ _ next in
    let more = next.head in
    let wide = h.width in
    let is : get_or (set s.words 0 (x + 1)) 0 0 ≡ x + 1 = get_or-set_same s.words 0 (x + 1) 0 (omega arith) in
    let below = current_below b s.words s.views h in
    let ids = h.ids in
    let wraps : x + 1 ≡ (x + 1) % 2 ^ 64 = omega arith in
    let f = h.fits id me.0 at live in
    let an_id = head_id b s.words s.views h in
    let a_slot = head_slot b s.words s.views h in
    let seen = (h.small id me.0 at).seen in
    let width = f.slots in
    let inside = slice_get_within b.records (current_slot b) _ h.current_is.is in (
      pinned_view me.0 b.id (current_slot b),
      keeps,
      tt,
      (b, subst (λ n. IsKeptBy b (set s.words 0 n) (set s.views id (pinned_view me.0 b.id (current_slot b)))) wraps next),
      ((λ i. pinned_view me.0 (sym an_id i) (sym a_slot i)), omega arith, omega arith),
    )

unpins_suc : (k : Start) (slots id : ℕ) (me : Me (Unit {0}) View) (i t : ℕ)
    → me.0.live ≡ true → me.0.publishes ≡ false → me.0.held ≡ Some (i, t)
    → Allows (BoardHolds k) slots id me (suc t) (λ n. (n + 1) % 2 ^ 64) (Unpinned (step slots (suc t) 1 0 none) me)
unpins_suc k slots id me i t live reads pin s kept _ table_at small =
    let at = slice_get_from_get_elem s.views id me.0 table_at in
    let b = kept.0 in
    let h = kept.1 in
    let x : ℕ = get_or s.words (suc t) 0 in
    let room : x + 1 < 2 ^ 64 = room_left b s.words s.views id me.0 h at live reads i t pin in
    let wraps : x + 1 ≡ (x + 1) % 2 ^ 64 = omega arith in (
      unpinned_view me.0,
      keeps,
      tt,
      (b, subst (λ n. IsKeptBy b (set s.words (suc t) n) (set s.views id (unpinned_view me.0))) wraps (unpinned b s.words s.views id me.0 h at live reads i t pin)),
      refl,
    )

pub unpins_allowed : (k : Start) (slots id : ℕ) (me : Me (Unit {0}) View) (i t : ℕ)
    → me.0.live ≡ true → me.0.publishes ≡ false → me.0.held ≡ Some (i, t)
    → Allows (BoardHolds k) slots id me (t + 1) (λ n. (n + 1) % 2 ^ 64) (Unpinned (step slots (t + 1) 1 0 none) me)
unpins_allowed k slots id me i t live reads pin = subst (λ w. Allows (BoardHolds k) slots id me w (λ n. (n + 1) % 2 ^ 64) (Unpinned (step slots w 1 0 none) me)) (omega arith) (unpins_suc k slots id me i t live reads pin)

pub learns_allowed : (k : Start) (slots id : ℕ) (me : Me (Unit {0}) View)
    → me.0.live ≡ true → me.0.publishes ≡ false
    → Allows (BoardHolds k) slots id me 0 (λ n. n) (Learnt (step slots 0 0 0 none) me)
learns_allowed k slots id me live reads s kept _ table_at small =
    let at = slice_get_from_get_elem s.views id me.0 table_at in
    let b = kept.0 in
    let h = kept.1 in
    let f = h.fits id me.0 at live in
    let an_id = head_id b s.words s.views h in
    let a_slot = head_slot b s.words s.views h in
    let seen = (h.small id me.0 at).seen in
    let told = f.told in (
      learnt_view me.0 b.id (current_slot b),
      keeps,
      tt,
      (b, subst (λ ws. IsKeptBy b ws (set s.views id (learnt_view me.0 b.id (current_slot b)))) (sym (set-get_or s.words 0 0)) (learnt b s.words s.views id me.0 h at live reads)),
      ((λ i. learnt_view me.0 (sym an_id i) (sym a_slot i)), omega arith, omega arith),
    )

-- a load after which the view is as it was
still : (s : St) (id : ℕ) (v : View) → get_elem? s.views id ≡ some v → IsKept s.words s.views → IsKept (set s.words 0 (get_or s.words 0 0)) (set s.views id v)
still s id v at kept = subst (λ (z : List ℕ × List View). IsKept z.0 z.1) (λ i. (sym (set-get_or s.words 0 0) i, sym (set_again s.views id v at) i)) kept

pub note_allowed : (k : Start) (slots id : ℕ) (me : Me (Unit {0}) View)
    → me.0.live ≡ true → me.0.publishes ≡ true
    → Allows (BoardHolds k) slots id me 0 (λ n. n) (NoteChecked (step slots 0 0 0 none) me)
note_allowed k slots id me live publishes s kept _ table_at small =
    let at = slice_get_from_get_elem s.views id me.0 table_at in
    let h = kept.1 in
    let f = h.fits id me.0 at live in
    let mine = f.publishes publishes in
    let same = mine.1 in
    let noted = f.noted in (
      me.0,
      keeps,
      tt,
      still s id me.0 table_at kept,
      (refl, omega arith, λ e. sym f.noted_slot ∙ ap kept.0.slot_of e ∙ f.seen_slot),
    )

pub pin_checked_allowed : (k : Start) (slots id : ℕ) (me : Me (Unit {0}) View)
    → me.0.live ≡ true
    → Allows (BoardHolds k) slots id me 0 (λ n. n) (PinChecked (step slots 0 0 0 none) me)
pin_checked_allowed k slots id me live s kept _ table_at small =
    let at = slice_get_from_get_elem s.views id me.0 table_at in
    (me.0, keeps, tt, still s id me.0 table_at kept, (refl, kept.1.known id id me.0 me.0 at at live live))
