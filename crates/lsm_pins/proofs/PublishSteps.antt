-- The publisher's steps keep the rule: a look at a slot, and a swap of the head.
use Rattle.std.proofs.Common.{◌≡◌, ◌≢◌, ℕ, suc, ◌+◌, ◌-◌, ◌*◌, ◌<◌, ◌≤◌, ◌^◌, None, Bool, true, false, not, ◌&&◌, cond, eqb, eq-eqb, ne_eqb, Some, List, ◌∷◌, length, set, get_or, sym, refl, ap, ◌∙◌, subst, ⊎_elim, arith, length-set, get_or-set_same, get_or-set_other}
use Rattle.std.proofs.lemmas.List.{set-get_or}
use mathlib.Core.Logic.{dite}
use native.Mathlib.Decide.{ℕ_discrete}
use Rattle.atomic_table.specs.Table.{State, Me, step, keeps, Allows}
use Rattle.lsm_pins.specs.declared.view.View.{View}
use Rattle.lsm_pins.specs.declared.rule.Start.{Start}
use Rattle.lsm_pins.specs.declared.slot_record.SlotRecord.{SlotRecord}
use Rattle.lsm_pins.proofs.SumLemmas.{sum_same, sum_has, sum_none, cond_le, slot_of_head}
use Rattle.lsm_pins.proofs.ViewLemmas.{few_set, fits_set, tied_set, free_apart}
use Rattle.lsm_pins.proofs.PinSteps.{is_one, few_pins, head_count}
use Rattle.lsm_pins.specs.Head.{count_in, head_of, slot_in}
use Rattle.lsm_pins.specs.SlotRecord.{IsInUse, freed_records, published_records, record_at, slot_record, unused}
use Rattle.lsm_pins.specs.View.{held_at, is_unheld, looked_view, parts_of, pin_at, pins_of}
use Rattle.lsm_pins.specs.Rule.{BoardHolds, BoardState, Fits, IsKept, IsKeptBy, current_pins, current_slot}
use Rattle.lsm_pins.specs.Step.{Looked, LookedAt, Published}
use Rattle.lsm_pins.proofs.ListLemmas.{at_set, set_else, set_here, slice_get_from_get_elem}
use Rattle.std.proofs.lemmas.Option.{get_or_from_slice_get, none-some, same_Some, slice_get-get_or, slice_get_within}
use Rattle.std.specs.Prelude.{slice_get, sum_by}
use mathlib.Core.Option.{none}

-- a slot that no view holds is not that of a view's pin
pub unheld_apart : (views : List View) (j : ℕ) (u : View) (t i s : ℕ) → slice_get views j ≡ Some u → u.held ≡ Some (i, s) → sum_by (held_at t) views ≡ 0 → s ≢ t
unheld_apart views j u t i s e pin unheld same =
    let least = sum_has (held_at t) views j u e in
    let one : held_at t u ≡ 1 = ap (pin_at t) pin ∙ ap (λ n. cond (eqb t n) 1 0) same ∙ is_one t in
    omega arith

module _ (b : BoardState) (words : List ℕ) (views : List View) (by : ℕ) (v : View) (h : IsKeptBy b words views) (at : slice_get views by ≡ Some v) (live : v.live ≡ true) (publishes : v.publishes ≡ true) where
  abbrev mine : Fits b by v
  mine = h.fits by v at live

  -- no other view publishes
  alone : (j : ℕ) (u : View) → j ≢ by → slice_get views j ≡ Some u → u.live ≡ true → u.publishes ≡ true → ⊥
  alone j u apart e l p = apart (((h.fits j u e l).publishes p).0 ∙ sym (mine.publishes publishes).0)

  -- the publisher's view changes in its trace alone
  module _ (t n : ℕ) where
    abbrev missed_view : View
    missed_view = record v { looks = t ∷ v.looks; found = n }

    pub missed : IsKeptBy b words (set views by missed_view)
    missed = record {
      width = h.width;
      few_slots = h.few_slots;
      head = h.head ∙ ap (head_of (current_slot b) b.id) (sym (sum_same (pins_of b.id) views by v missed_view at refl));
      ids = h.ids;
      current_is = h.current_is;
      few_parts = let a = sum_same parts_of views by v missed_view at refl in let f = h.few_parts in omega arith;
      balance = λ s r e.
          let was = h.balance s r e in
          let count : cond (eqb s (current_slot b)) (current_pins b (set views by missed_view)) 0 ≡ cond (eqb s (current_slot b)) (current_pins b views) 0 = ap (λ m. cond (eqb s (current_slot b)) m 0) (sum_same (pins_of b.id) views by v missed_view at refl) in
          let holds = sum_same (held_at s) views by v missed_view at refl in
          omega arith;
      bounded = h.bounded;
      free = λ s r e f. sum_same (held_at s) views by v missed_view at refl ∙ h.free s r e f;
      small = few_set views by missed_view b.id h.small (record { few = (h.small by v at).few; seen = (h.small by v at).seen; holder = λ i s e. live });
      fits = fits_set views by missed_view b (λ j u _ e l. h.fits j u e l) (λ _. record {
        slots = mine.slots;
        seen_slot = mine.seen_slot;
        noted = mine.noted;
        noted_slot = mine.noted_slot;
        told = mine.told;
        told_current = mine.told_current;
        holds = mine.holds;
        publishes = mine.publishes;
      });
      known = tied_set views by missed_view h.known (λ j u _ e l _. (record { names = (h.known j by u v e at l live).names }, record { names = (h.known by j v u at e live l).names })) (λ _. record { names = (h.known by by v v at at live live).names });
    }

  -- the slot t is found with no pin
  module _ (t : ℕ) (r : SlotRecord) (here : slice_get b.records t ≡ Some r) (apart : t ≢ current_slot b) (even : get_or words (suc t) 0 ≡ r.total) where
    abbrev marked : List SlotRecord
    marked = set b.records t (record r { id = None })

    abbrev now : BoardState
    now = record b { records = marked }

    abbrev w : View
    w = record v { looks = t ∷ v.looks; found = get_or words (suc t) 0; records = marked }

    abbrev after : List View
    after = set views by w

    unheld : sum_by (held_at t) views ≡ 0
    unheld = let a = h.balance t r here in let n = is_none_count in omega arith
      where
        is_none_count : cond (eqb t (current_slot b)) (current_pins b views) 0 ≡ 0
        is_none_count = ap (λ c. cond c (current_pins b views) 0) (ne_eqb t (current_slot b) apart)

    held_same : (s : ℕ) → sum_by (held_at s) after ≡ sum_by (held_at s) views
    held_same s = sum_same (held_at s) views by v w at refl

    pins_same : current_pins b after ≡ current_pins b views
    pins_same = sum_same (pins_of b.id) views by v w at refl

    -- a slot other than t is named as before
    named : (s i : ℕ) → s ≢ t → IsInUse b.records s i → IsInUse marked s i
    named s i other is = record { total = is.total; is = set_else b.records t s (record r { id = None }) other ∙ is.is }

    names : (j : ℕ) (u : View) → slice_get views j ≡ Some u → u.live ≡ true → (i s : ℕ) → u.held ≡ Some (i, s) → IsInUse marked s i
    names j u e l i s pin = named s i (unheld_apart views j u t i s e pin unheld) ((h.fits j u e l).holds i s pin).1

    pub cleared : IsKeptBy now words after
    cleared = record {
      width = h.width ∙ ap suc (sym (length-set b.records t (record r { id = None })));
      few_slots = let a = h.few_slots in let e = length-set b.records t (record r { id = None }) in omega arith;
      head = h.head ∙ ap (head_of (current_slot b) b.id) (sym pins_same);
      ids = h.ids;
      current_is = named (current_slot b) b.id (λ z. apart (sym z)) h.current_is;
      few_parts = let a = sum_same parts_of views by v w at refl in let f = h.few_parts in omega arith;
      balance = λ s q e.
          let count : cond (eqb s (current_slot b)) (current_pins b after) 0 ≡ cond (eqb s (current_slot b)) (current_pins b views) 0 = ap (λ m. cond (eqb s (current_slot b)) m 0) pins_same in
          let holds = held_same s in
          ⊎_elim
          (λ (z : (s ≡ t) × (record r { id = None } ≡ q)).
          let was = h.balance s r (ap (λ k. slice_get b.records k) z.0 ∙ here) in
          let tot : r.total ≡ q.total = ap (λ (x : SlotRecord). x.total) z.1 in
          omega arith)
          (λ (z : (s ≢ t) × (slice_get b.records s ≡ Some q)). let was = h.balance s q z.1 in omega arith)
          (at_set b.records t s (record r { id = None }) q e);
      bounded = λ s q e. ⊎_elim
          (λ (z : (s ≡ t) × (record r { id = None } ≡ q)). let most = h.bounded t r here in let tot : r.total ≡ q.total = ap (λ (x : SlotRecord). x.total) z.1 in omega arith)
          (λ (z : (s ≢ t) × (slice_get b.records s ≡ Some q)). h.bounded s q z.1)
          (at_set b.records t s (record r { id = None }) q e);
      free = λ s q e f. held_same s ∙ ⊎_elim
          (λ (z : (s ≡ t) × (record r { id = None } ≡ q)). ap (λ k. sum_by (held_at k) views) z.0 ∙ unheld)
          (λ (z : (s ≢ t) × (slice_get b.records s ≡ Some q)). h.free s q z.1 f)
          (at_set b.records t s (record r { id = None }) q e);
      small = few_set views by w b.id h.small (record { few = (h.small by v at).few; seen = (h.small by v at).seen; holder = λ i s e. live });
      fits = fits_set views by w now
          (λ j u other e l. let f = h.fits j u e l in record {
            slots = f.slots ∙ sym (length-set b.records t (record r { id = None }));
            seen_slot = f.seen_slot;
            noted = f.noted;
            noted_slot = f.noted_slot;
            told = f.told;
            told_current = f.told_current;
            holds = λ i s p. ((f.holds i s p).0, names j u e l i s p);
            publishes = λ p. absurd (alone j u other e l p);
          })
          (λ _. let p = mine.publishes publishes in record {
            slots = mine.slots ∙ sym (length-set b.records t (record r { id = None }));
            seen_slot = mine.seen_slot;
            noted = mine.noted;
            noted_slot = mine.noted_slot;
            told = mine.told;
            told_current = subst (λ i. IsInUse marked (b.slot_of i) i) (sym p.2) (named (current_slot b) b.id (λ z. apart (sym z)) h.current_is);
            holds = λ i s q. ((mine.holds i s q).0, names by v at live i s q);
            publishes = λ _. (p.0, p.1, p.2, refl);
          });
      known = tied_set views by w h.known
          (λ j u _ e l _. (record { names = (h.known j by u v e at l live).names }, record { names = λ i s p le. names j u e l i s p }))
          (λ _. record { names = λ i s p le. names by v at live i s p });
    }

  -- the free slot t becomes current with the next id
  module _ (t : ℕ) (r : SlotRecord) (here : slice_get b.records t ≡ Some r) (is_free : r.id ≡ None) (more : b.id + 1 < 2 ^ 28) (uncounted : v.count ≡ 0) (count : ℕ) where
    abbrev was_current : SlotRecord
    was_current = slot_record (Some b.id) (h.current_is.total + current_pins b views)

    abbrev is_current : SlotRecord
    is_current = slot_record (Some (b.id + 1)) r.total

    abbrev half : List SlotRecord
    half = set b.records (current_slot b) was_current

    abbrev turned : List SlotRecord
    turned = set half t is_current

    abbrev next : BoardState
    next = record { id = b.id + 1; records = turned; slot_of = λ i. cond (eqb i (b.id + 1)) t (b.slot_of i); seat = b.seat }

    abbrev p : View
    p = record v { id = b.id + 1; slot = t; told_id = b.id + 1; records = turned; found = count }

    abbrev then_views : List View
    then_views = set views by p

    abbrev then_words : List ℕ
    then_words = set words 0 (head_of t (b.id + 1) 0)

    other_slot : t ≢ current_slot b
    other_slot = free_apart b.records t (current_slot b) b.id r here is_free h.current_is

    same_length : length turned ≡ length b.records
    same_length = length-set half t is_current ∙ length-set b.records (current_slot b) was_current

    t_below : t < length half
    t_below = let a = slice_get_within b.records t r here in let e = length-set b.records (current_slot b) was_current in omega arith

    keeps_slot : (i : ℕ) → i ≤ b.id → next.slot_of i ≡ b.slot_of i
    keeps_slot i le = ap (λ c. cond c t (b.slot_of i)) (ne_eqb i (b.id + 1) (λ z. omega arith))

    new_slot : next.slot_of (b.id + 1) ≡ t
    new_slot = ap (λ c. cond c t (b.slot_of (b.id + 1))) (eq-eqb (b.id + 1) (b.id + 1) refl)

    new_is : IsInUse turned t (b.id + 1)
    new_is = record { total = r.total; is = set_here half t is_current t_below }

    still_named : (s i : ℕ) → IsInUse b.records s i → IsInUse turned s i
    still_named s i is = let off = free_apart b.records t s i r here is_free is in dite (ℕ_discrete s (current_slot b))
        (λ same.
        let both : slot_record (Some i) is.total ≡ slot_record (Some b.id) h.current_is.total = same_Some _ _ (sym is.is ∙ ap (λ k. slice_get b.records k) same ∙ h.current_is.is) in
        let id_is : Some b.id ≡ Some i = sym (ap (λ (x : SlotRecord). x.id) both) in
        subst (λ k. IsInUse turned k i) (sym same) (record {
          total = h.current_is.total + current_pins b views;
          is = set_else half t (current_slot b) is_current (λ z. other_slot (sym z)) ∙ set_here b.records (current_slot b) was_current (slice_get_within b.records (current_slot b) _ h.current_is.is) ∙ ap (λ k. Some (slot_record k (h.current_is.total + current_pins b views))) id_is;
        }))
        (λ other. record { total = is.total; is = set_else half t s is_current (λ z. off (sym z)) ∙ set_else b.records (current_slot b) s was_current other ∙ is.is })

    names_then : (j : ℕ) (u : View) → slice_get views j ≡ Some u → u.live ≡ true → (i s : ℕ) → u.held ≡ Some (i, s) → IsInUse turned s i
    names_then j u e l i s pin = still_named s i ((h.fits j u e l).holds i s pin).1

    held_then : (s : ℕ) → sum_by (held_at s) then_views ≡ sum_by (held_at s) views
    held_then s = sum_same (held_at s) views by v p at refl

    no_pins : current_pins next then_views ≡ 0
    no_pins = sum_none (pins_of (b.id + 1)) then_views (λ j u e.
        ⊎_elim
        (λ (z : (j ≡ by) × (p ≡ u)). subst (λ (x : View). pins_of (b.id + 1) x ≡ 0) z.1 (let a = cond_le (eqb (b.id + 1) (b.id + 1)) v.count in omega arith))
        (λ (z : (j ≢ by) × (slice_get views j ≡ Some u)). let a = (h.small j u z.1).seen in ap (λ c. cond c u.count 0) (ne_eqb u.id (b.id + 1) (λ y. omega arith)))
        (at_set views by j p u e))

    -- the three kinds of slots
    cases : (P : ℕ → SlotRecord → Type 0) → P t is_current → P (current_slot b) was_current → ((s : ℕ) (q : SlotRecord) → s ≢ t → s ≢ current_slot b → slice_get b.records s ≡ Some q → P s q)
        → (s : ℕ) (q : SlotRecord) → slice_get turned s ≡ Some q → P s q
    cases P new old others s q e = ⊎_elim
        (λ (z : (s ≡ t) × (is_current ≡ q)). subst (λ (y : ℕ × SlotRecord). P y.0 y.1) (λ i. (sym z.0 i, z.1 i)) new)
        (λ (z : (s ≢ t) × (slice_get half s ≡ Some q)). ⊎_elim
        (λ (y : (s ≡ current_slot b) × (was_current ≡ q)). subst (λ (y : ℕ × SlotRecord). P y.0 y.1) (λ i. (sym y.0 i, y.1 i)) old)
        (λ (y : (s ≢ current_slot b) × (slice_get b.records s ≡ Some q)). others s q z.0 y.0 y.1)
        (at_set b.records (current_slot b) s was_current q z.1))
        (at_set half t s is_current q e)

    released_same : (s : ℕ) → get_or then_words (suc s) 0 ≡ get_or words (suc s) 0
    released_same s = get_or-set_other words 0 (suc s) (head_of t (b.id + 1) 0) 0 (λ z. omega arith)

    abbrev Balanced : ℕ → SlotRecord → Type 0
    Balanced s q = q.total + cond (eqb s (current_slot next)) (current_pins next then_views) 0 ≡ get_or then_words (suc s) 0 + sum_by (held_at s) then_views

    balanced : (s : ℕ) (q : SlotRecord) → slice_get turned s ≡ Some q → Balanced s q
    balanced = cases Balanced
        (let was = h.balance t r here in
        let gone = cond_le (eqb t (current_slot next)) (current_pins next then_views) in
        let zero_pins = no_pins in
        let off : cond (eqb t (current_slot b)) (current_pins b views) 0 ≡ 0 = ap (λ c. cond c (current_pins b views) 0) (ne_eqb t (current_slot b) other_slot) in
        let same = released_same t in
        let holds = held_then t in
        omega arith)
        (let was = h.balance (current_slot b) _ h.current_is.is in
        let gone = cond_le (eqb (current_slot b) (current_slot next)) (current_pins next then_views) in
        let zero_pins = no_pins in
        let on : cond (eqb (current_slot b) (current_slot b)) (current_pins b views) 0 ≡ current_pins b views = ap (λ c. cond c (current_pins b views) 0) (eq-eqb (current_slot b) (current_slot b) refl) in
        let same = released_same (current_slot b) in
        let holds = held_then (current_slot b) in
        omega arith)
        (λ s q not_t not_current e.
        let was = h.balance s q e in
        let gone = cond_le (eqb s (current_slot next)) (current_pins next then_views) in
        let zero_pins = no_pins in
        let off : cond (eqb s (current_slot b)) (current_pins b views) 0 ≡ 0 = ap (λ c. cond c (current_pins b views) 0) (ne_eqb s (current_slot b) not_current) in
        let same = released_same s in
        let holds = held_then s in
        omega arith)

    pub turned_over : IsKeptBy next then_words then_views
    turned_over = record {
      width = length-set words 0 (head_of t (b.id + 1) 0) ∙ h.width ∙ ap suc (sym same_length);
      few_slots = let a = h.few_slots in let e = same_length in omega arith;
      head =
          let wide = h.width in
          get_or-set_same words 0 (head_of t (b.id + 1) 0) 0 (omega arith)
          ∙ ap (λ s. head_of s (b.id + 1) 0) (sym new_slot)
          ∙ ap (head_of (current_slot next) (b.id + 1)) (sym no_pins);
      ids = more;
      current_is = subst (λ s. IsInUse turned s (b.id + 1)) (sym new_slot) new_is;
      few_parts = let a = sum_same parts_of views by v p at refl in let f = h.few_parts in omega arith;
      balance = balanced;
      bounded = cases (λ s q. q.total ≤ (b.id + 1) * 2 ^ 30)
          (let most = h.bounded t r here in omega arith)
          (let most = h.bounded (current_slot b) _ h.current_is.is in let few = few_pins b words views h in omega arith)
          (λ s q _ _ e. let most = h.bounded s q e in omega arith);
      free = cases (λ s q. q.id ≡ None → sum_by (held_at s) then_views ≡ 0)
          (λ f. absurd (none-some _ (sym f)))
          (λ f. absurd (none-some _ (sym f)))
          (λ s q _ _ e f. held_then s ∙ h.free s q e f);
      small = few_set views by p (b.id + 1) (λ j u e. let m = h.small j u e in let seen = m.seen in record { few = m.few; seen = omega arith; holder = m.holder }) (record { few = (h.small by v at).few; seen = omega arith; holder = λ i s e. live });
      fits = fits_set views by p next
          (λ j u other e l. let f = h.fits j u e l in let seen = (h.small j u e).seen in let noted = f.noted in let told = f.told in record {
            slots = f.slots ∙ sym same_length;
            seen_slot = keeps_slot u.id seen ∙ f.seen_slot;
            noted = omega arith;
            noted_slot = keeps_slot u.note_id noted ∙ f.noted_slot;
            told = omega arith;
            told_current = subst (λ s. IsInUse u.records s u.told_id) (sym (keeps_slot u.told_id told)) f.told_current;
            holds = λ i s q. (let a = (f.holds i s q).0 in omega arith, names_then j u e l i s q);
            publishes = λ q. absurd (alone j u other e l q);
          })
          (λ _. let m = mine.publishes publishes in let noted = mine.noted in record {
            slots = mine.slots ∙ sym same_length;
            seen_slot = new_slot;
            noted = omega arith;
            noted_slot = keeps_slot v.note_id noted ∙ mine.noted_slot;
            told = omega arith;
            told_current = subst (λ s. IsInUse turned s (b.id + 1)) (sym new_slot) new_is;
            holds = λ i s q. (let a = (mine.holds i s q).0 in omega arith, names_then by v at live i s q);
            publishes = λ _. (m.0, refl, refl, refl);
          });
      known = tied_set views by p h.known
          (λ j u _ e l _. (record { names = (h.known j by u v e at l live).names }, record { names = λ i s q le. names_then j u e l i s q }))
          (λ _. record { names = λ i s q le. names_then by v at live i s q });
    }

-- what the steps owe

unheld_yes : (v : View) (t n : ℕ) → t ≢ v.slot → n ≡ (record_at v.records t).total → is_unheld v t n ≡ true
unheld_yes v t n apart even = λ i. not (ne_eqb t v.slot apart i) && eq-eqb n (record_at v.records t).total even i

unheld_current : (v : View) (t n : ℕ) → t ≡ v.slot → is_unheld v t n ≡ false
unheld_current v t n same = ap (λ c. not c && eqb n (record_at v.records t).total) (eq-eqb t v.slot same)

and_false : (c : Bool) → c && false ≡ false
and_false true = refl
and_false false = refl

unheld_held : (v : View) (t n : ℕ) → n ≢ (record_at v.records t).total → is_unheld v t n ≡ false
unheld_held v t n odd = ap (λ c. not (eqb t v.slot) && c) (ne_eqb n (record_at v.records t).total odd) ∙ and_false (not (eqb t v.slot))

-- a look that finds nothing new
miss : (s : State (Unit {0}) View) (k : Start) (id : ℕ) (me : Me (Unit {0}) View) (t : ℕ) → BoardHolds k s → slice_get s.views id ≡ Some me.0 → me.0.live ≡ true → me.0.publishes ≡ true
    → is_unheld me.0 t (get_or s.words (suc t) 0) ≡ false
    → (w : View) × IsKept (set s.words (suc t) (get_or s.words (suc t) 0)) (set s.views id w) × (w ≡ looked_view me.0 t (get_or s.words (suc t) 0))
miss s k id me t kept at live publishes never =
    let b = kept.0 in
    let x : ℕ = get_or s.words (suc t) 0 in
    let w : View = missed_view b s.words s.views id me.0 kept.1 at live publishes t x in (
      w,
      (b, subst (λ ws. IsKeptBy b ws (set s.views id w)) (sym (set-get_or s.words (suc t) 0)) (missed b s.words s.views id me.0 kept.1 at live publishes t x)),
      λ i. record me.0 { looks = t ∷ me.0.looks; found = x; records = cond (sym never i) (freed_records me.0.records t) me.0.records },
    )

hit : (s : State (Unit {0}) View) (k : Start) (id : ℕ) (me : Me (Unit {0}) View) (t : ℕ) → BoardHolds k s → slice_get s.views id ≡ Some me.0 → me.0.live ≡ true → me.0.publishes ≡ true
    → t < length me.0.records → t ≢ me.0.slot → get_or s.words (suc t) 0 ≡ (record_at me.0.records t).total
    → (w : View) × IsKept (set s.words (suc t) (get_or s.words (suc t) 0)) (set s.views id w) × (w ≡ looked_view me.0 t (get_or s.words (suc t) 0))
hit s k id me t kept at live publishes below apart even =
    let b = kept.0 in
    let h = kept.1 in
    let x : ℕ = get_or s.words (suc t) 0 in
    let f = h.fits id me.0 at live in
    let p = f.publishes publishes in
    let slot_is : current_slot b ≡ me.0.slot = ap b.slot_of (sym p.1) ∙ f.seen_slot in
    let r : SlotRecord = record_at b.records t in
    let here : slice_get b.records t ≡ Some r = slice_get-get_or b.records t unused (subst (λ rs. t < length rs) p.3 below) in
    let even_b : x ≡ r.total = even ∙ ap (λ rs. (record_at rs t).total) p.3 in
    let off : t ≢ current_slot b = λ z. apart (z ∙ slot_is) in
    let w : View = record me.0 { looks = t ∷ me.0.looks; found = x; records = freed_records b.records t } in
    let yes = unheld_yes me.0 t x apart even in
    let list : freed_records b.records t ≡ cond (is_unheld me.0 t x) (freed_records me.0.records t) me.0.records = ap (λ rs. freed_records rs t) (sym p.3) ∙ ap (λ c. cond c (freed_records me.0.records t) me.0.records) (sym yes) in (
      w,
      (record b { records = freed_records b.records t }, subst (λ ws. IsKeptBy (record b { records = freed_records b.records t }) ws (set s.views id w)) (sym (set-get_or s.words (suc t) 0)) (cleared b s.words s.views id me.0 h at live publishes t r here off even_b)),
      λ i. record me.0 { looks = t ∷ me.0.looks; found = x; records = list i },
    )

pub looks_allowed : (k : Start) (slots id : ℕ) (me : Me (Unit {0}) View) (t : ℕ)
    → me.0.live ≡ true → me.0.publishes ≡ true → t < length me.0.records
    → Allows (BoardHolds k) slots id me (t + 1) (λ n. n) (Looked (step slots (t + 1) 0 0 none) me)
looks_allowed k slots id me t live publishes below =
    subst (λ (z : ℕ × ℕ). Allows (BoardHolds k) slots id me z.0 (λ n. n) (LookedAt z.1 (step slots z.0 0 0 none) me)) (λ i. (word i, place i)) go
  where
    word : suc t ≡ t + 1
    word = omega arith

    place : t ≡ t + 1 - 1
    place = omega arith

    go : Allows (BoardHolds k) slots id me (suc t) (λ n. n) (LookedAt t (step slots (suc t) 0 0 none) me)
    go s kept _ table_at small =
        let at = slice_get_from_get_elem s.views id me.0 table_at in
        let x : ℕ = get_or s.words (suc t) 0 in
        let w : (w : View) × IsKept (set s.words (suc t) x) (set s.views id w) × (w ≡ looked_view me.0 t x) = dite (ℕ_discrete t me.0.slot)
        (λ same. miss s k id me t kept at live publishes (unheld_current me.0 t x same))
        (λ apart. dite (ℕ_discrete x (record_at me.0.records t).total)
        (λ even. hit s k id me t kept at live publishes below apart even)
        (λ odd. miss s k id me t kept at live publishes (unheld_held me.0 t x odd))) in
        (w.0, keeps, tt, w.1, w.2)

pub publishes_allowed : (k : Start) (slots id : ℕ) (me : Me (Unit {0}) View) (t : ℕ) (r : SlotRecord)
    → me.0.live ≡ true → me.0.publishes ≡ true → me.0.count ≡ 0 → me.0.id + 1 < 2 ^ 28 → slice_get me.0.records t ≡ Some r → r.id ≡ None
    → Allows (BoardHolds k) slots id me 0 (λ _. head_of t (me.0.id + 1) 0) (Published (step slots 0 (head_of t (me.0.id + 1) 0) 0 none) me)
publishes_allowed k slots id me t r live publishes uncounted more here is_free s kept _ table_at small =
    let at = slice_get_from_get_elem s.views id me.0 table_at in
    let b = kept.0 in
    let h = kept.1 in
    let x : ℕ = get_or s.words 0 0 in
    let f = h.fits id me.0 at live in
    let q = f.publishes publishes in
    let slot_is : current_slot b ≡ me.0.slot = ap b.slot_of (sym q.1) ∙ f.seen_slot in
    let here_b : slice_get b.records t ≡ Some r = ap (λ rs. slice_get rs t) (sym q.3) ∙ here in
    let more_b : b.id + 1 < 2 ^ 28 = subst (λ i. i + 1 < 2 ^ 28) q.1 more in
    let few = few_pins b s.words s.views h in
    let counted : count_in x ≡ current_pins b s.views = head_count b s.words s.views h in
    let new = turned_over b s.words s.views id me.0 h at live publishes t r here_b is_free more_b uncounted (count_in x) in
    let w : View = p b s.words s.views id me.0 h at live publishes t r here_b is_free more_b uncounted (count_in x) in
    let old_is : record_at b.records (current_slot b) ≡ slot_record (Some b.id) h.current_is.total = get_or_from_slice_get b.records (current_slot b) _ unused h.current_is.is in
    let t_is : record_at b.records t ≡ r = get_or_from_slice_get b.records t r unused here_b in
    let list : turned b s.words s.views id me.0 h at live publishes t r here_b is_free more_b uncounted (count_in x) ≡ published_records b.records (current_slot b) (current_pins b s.views) t (b.id + 1) =
    λ i. set (set b.records (current_slot b) (record (sym old_is i) { total = (sym old_is i).total + current_pins b s.views })) t (record (sym t_is i) { id = Some (b.id + 1) }) in
    let back : published_records b.records (current_slot b) (current_pins b s.views) t (b.id + 1) ≡ published_records me.0.records me.0.slot (count_in x) t (me.0.id + 1) =
    λ i. published_records (sym q.3 i) (slot_is i) (sym counted i) t (sym q.1 i + 1) in
    let most = h.bounded (current_slot b) _ h.current_is.is in
    let ids = h.ids in
    let total_b : (record_at b.records (current_slot b)).total + count_in x < 2 ^ 64 = let o = ap (λ (r : SlotRecord). r.total) old_is in omega arith in
    let total_small = subst (λ (z : List SlotRecord × ℕ). (record_at z.0 z.1).total + count_in x < 2 ^ 64) (λ i. (sym q.3 i, slot_is i)) total_b in
    let slot_back : t ≡ slot_in (head_of t (me.0.id + 1) 0) = sym (slot_of_head t (me.0.id + 1) 0 more (omega arith)) in
    let whole : turned b s.words s.views id me.0 h at live publishes t r here_b is_free more_b uncounted (count_in x) ≡ published_records me.0.records me.0.slot (count_in x) (slot_in (head_of t (me.0.id + 1) 0)) (me.0.id + 1) =
    list ∙ back ∙ ap (λ z. published_records me.0.records me.0.slot (count_in x) z (me.0.id + 1)) slot_back in (
      w,
      keeps,
      tt,
      (next b s.words s.views id me.0 h at live publishes t r here_b is_free more_b uncounted (count_in x), subst (λ i. IsKeptBy (next b s.words s.views id me.0 h at live publishes t r here_b is_free more_b uncounted (count_in x)) (set s.words 0 (head_of t (i + 1) 0)) (set s.views id w)) (sym q.1) new),
      ((λ i. record me.0 { id = sym q.1 i + 1; slot = slot_back i; told_id = sym q.1 i + 1; records = whole i; found = count_in x }), total_small),
    )
