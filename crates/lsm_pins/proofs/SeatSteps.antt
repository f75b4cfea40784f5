-- The rule at the start, and when views are cut in two and joined.
use Rattle.std.proofs.Common.{◌≡◌, ◌≢◌, ℕ, zero, suc, ◌+◌, ◌-◌, ◌*◌, ◌<◌, ◌≤◌, ◌^◌, Some, true, false, true≢false, cond, eqb, None, List, [], ◌∷◌, ◌++◌, length, replicate, set, get_or, sym, refl, ap, ◌∙◌, subst, ⊎_elim, arith, length-take, take}
use Rattle.std.proofs.lemmas.List.{length-replicate}
use Rattle.atomic_table.specs.Table.{Splits, Joins}
use Rattle.lsm_pins.specs.declared.view.View.{View}
use Rattle.lsm_pins.specs.declared.rule.Start.{Start}
use Rattle.lsm_pins.specs.declared.slot_record.SlotRecord.{SlotRecord}
use Rattle.lsm_pins.proofs.SumLemmas.{sum_set, sum_same, sum_snoc, cond_le}
use Rattle.lsm_pins.proofs.ViewLemmas.{AllFit, AllTied, few_set, fits_set, tied_set, few_snoc, fits_snoc, tied_snoc}
use Rattle.lsm_pins.specs.Head.{head_of}
use Rattle.lsm_pins.specs.SlotRecord.{IsInUse, first_records, slot_record, unused}
use Rattle.lsm_pins.specs.View.{IsCopy, copied_view, first_view, held_at, noted_view, parts_of, pin_at, pins_of, reader_view, spent_view, start_of, told_view, view_less_one_part}
use Rattle.lsm_pins.specs.Rule.{BoardHolds, BoardState, Fits, IsBounded, IsKept, IsKeptBy, KnowsPin, current_pins, current_slot}
use Rattle.lsm_pins.specs.Pinner.{IsPinnersView}
use Rattle.lsm_pins.specs.Publisher.{IsPublishersView}
use Rattle.lsm_pins.proofs.ListLemmas.{at_set, set_else, slice_get_from_get_elem}
use Rattle.std.proofs.lemmas.Option.{none-some, same_Some}
use Rattle.std.specs.Prelude.{slice_get, sum_by}
use mathlib.Core.Option.{some}
use lib.ListN.{get_elem?}

-- a view is cut in two: the second has no pin, and q of the parts
module _ (b : BoardState) (words : List ℕ) (views : List View) (by : ℕ) (v : View) (h : IsKeptBy b words views) (at : slice_get views by ≡ Some v) (live : v.live ≡ true) (p q : ℕ) (sum : p + q ≡ v.parts) (few_left : v.count ≤ 2 ^ 24 * p) where
  abbrev left : View
  left = record v { parts = p }

  abbrev right : View
  right = record v { publishes = false; parts = q; count = 0; held = None }

  abbrev first_half : List View
  first_half = set views by left

  abbrev both_views : List View
  both_views = first_half ++ right ∷ []

  pins_cut : current_pins b both_views ≡ current_pins b views
  pins_cut =
      let a = sum_snoc (pins_of b.id) first_half right in
      let e = sum_same (pins_of b.id) views by v left at refl in
      let none_here = cond_le (eqb v.id b.id) 0 in
      omega arith

  held_cut : (s : ℕ) → sum_by (held_at s) both_views ≡ sum_by (held_at s) views
  held_cut s = let a = sum_snoc (held_at s) first_half right in let e = sum_same (held_at s) views by v left at refl in omega arith

  abbrev mine : Fits b by v
  mine = h.fits by v at live

  fits_left : AllFit b first_half
  fits_left = fits_set views by left b (λ j u _ e l. h.fits j u e l) (λ _. record {
    slots = mine.slots;
    seen_slot = mine.seen_slot;
    noted = mine.noted;
    noted_slot = mine.noted_slot;
    told = mine.told;
    told_current = mine.told_current;
    holds = mine.holds;
    publishes = mine.publishes;
  })

  tied_left : AllTied first_half
  tied_left = tied_set views by left h.known (λ j u _ e l _. (record { names = (h.known j by u v e at l live).names }, record { names = (h.known by j v u at e live l).names })) (λ _. record { names = (h.known by by v v at at live live).names })

  -- the second half sees what the first did
  right_ties : (j : ℕ) (u : View) → slice_get first_half j ≡ Some u → u.live ≡ true → KnowsPin right u
  right_ties j u e l = ⊎_elim
      (λ (z : (j ≡ by) × (left ≡ u)). subst (λ (x : View). KnowsPin right x) z.1 (record { names = (h.known by by v v at at live live).names }))
      (λ (z : (j ≢ by) × (slice_get views j ≡ Some u)). record { names = (h.known by j v u at z.1 live l).names })
      (at_set views by j left u e)

  pub cut : IsKeptBy b words both_views
  cut = record {
    width = h.width;
    few_slots = h.few_slots;
    head = h.head ∙ ap (head_of (current_slot b) b.id) (sym pins_cut);
    ids = h.ids;
    current_is = h.current_is;
    few_parts = let a = sum_snoc parts_of first_half right in let e = sum_set parts_of views by v left at in let f = h.few_parts in omega arith;
    balance = λ s r e.
        let was = h.balance s r e in
        let count : cond (eqb s (current_slot b)) (current_pins b both_views) 0 ≡ cond (eqb s (current_slot b)) (current_pins b views) 0 = ap (λ m. cond (eqb s (current_slot b)) m 0) pins_cut in
        let holds = held_cut s in
        omega arith;
    bounded = h.bounded;
    free = λ s r e f. held_cut s ∙ h.free s r e f;
    small = let m = h.small by v at in let seen = m.seen in few_snoc first_half right b.id (few_set views by left b.id h.small (record { few = few_left; seen = seen; holder = λ i s e. live })) (record { few = omega arith; seen = seen; holder = λ i s e. live });
    fits = fits_snoc first_half right b fits_left (λ j _. record {
      slots = mine.slots;
      seen_slot = mine.seen_slot;
      noted = mine.noted;
      noted_slot = mine.noted_slot;
      told = mine.told;
      told_current = mine.told_current;
      holds = λ i s e. absurd (cc);
      publishes = λ e. absurd (true≢false (sym e));
    });
    known = tied_snoc first_half right tied_left (λ j u e l _. (record { names = λ i s e le. absurd (cc) }, right_ties j u e l)) (λ _. record { names = λ i s e le. absurd (cc) });
  }

-- a view takes in what a copy knows, and the copy is spent
module _ (b : BoardState) (words : List ℕ) (views : List View) (by : ℕ) (v : View) (h : IsKeptBy b words views) (at : slice_get views by ≡ Some v) (live : v.live ≡ true) (other : ℕ) (c w : View) (apart : ¬ (other ≡ by)) (there : slice_get views other ≡ Some c) (known : c.live ≡ true)
    (no_count : c.count ≡ 0) (no_part : c.parts ≡ 0) (no_pin : c.held ≡ None)
    (same_count : (id : ℕ) → pins_of id w ≡ pins_of id v) (same_held : (s : ℕ) → held_at s w ≡ held_at s v) (same_part : w.parts ≡ v.parts) (small_w : IsBounded b.id w) (fit_w : Fits b by w)
    (ties : (j : ℕ) (u : View) → slice_get views j ≡ Some u → u.live ≡ true → KnowsPin u w × KnowsPin w u) (self : KnowsPin w w) where
  abbrev joined : List View
  joined = set views by w

  abbrev after : List View
  after = set joined other spent_view

  still_there : slice_get joined other ≡ Some c
  still_there = set_else views by other w apart ∙ there

  pins_joined : current_pins b after ≡ current_pins b views
  pins_joined =
      let one = sum_same (pins_of b.id) views by v w at (same_count b.id) in
      let two = sum_set (pins_of b.id) joined other c spent_view still_there in
      let zero_c = cond_le (eqb c.id b.id) c.count in
      let zero_spent = cond_le (eqb 0 b.id) 0 in
      omega arith

  held_joined : (s : ℕ) → sum_by (held_at s) after ≡ sum_by (held_at s) views
  held_joined s =
      let one = sum_same (held_at s) views by v w at (same_held s) in
      let two = sum_set (held_at s) joined other c spent_view still_there in
      let zero_c : held_at s c ≡ 0 = ap (pin_at s) no_pin in
      omega arith

  pub joined_kept : IsKeptBy b words after
  joined_kept = record {
    width = h.width;
    few_slots = h.few_slots;
    head = h.head ∙ ap (head_of (current_slot b) b.id) (sym pins_joined);
    ids = h.ids;
    current_is = h.current_is;
    few_parts = let one = sum_same parts_of views by v w at same_part in let two = sum_set parts_of joined other c spent_view still_there in let f = h.few_parts in omega arith;
    balance = λ s r e.
        let was = h.balance s r e in
        let count : cond (eqb s (current_slot b)) (current_pins b after) 0 ≡ cond (eqb s (current_slot b)) (current_pins b views) 0 = ap (λ m. cond (eqb s (current_slot b)) m 0) pins_joined in
        let holds = held_joined s in
        omega arith;
    bounded = h.bounded;
    free = λ s r e f. held_joined s ∙ h.free s r e f;
    small = few_set joined other spent_view b.id (few_set views by w b.id h.small small_w) (record { few = omega arith; seen = omega arith; holder = λ i s e. absurd (cc) });
    fits = fits_set joined other spent_view b (λ j u _ e l. fits_set views by w b (λ i y _ e' m. h.fits i y e' m) (λ _. fit_w) j u e l) (λ l. absurd (true≢false (sym l)));
    known = tied_set joined other spent_view (tied_set views by w h.known (λ j u _ e l _. ties j u e l) (λ _. self)) (λ j u _ e l m. absurd (true≢false (sym m))) (λ m. absurd (true≢false (sym m)));
  }

-- what the calls owe

pub makes_reader : (k : Start) (id : ℕ) (v : View) → v.live ≡ true → 0 < v.parts → v.count ≡ 0 → Splits (BoardHolds k) id v (view_less_one_part v) (reader_view v)
makes_reader k id v live more uncounted s kept table_at =
    let at = slice_get_from_get_elem s.views id v table_at in
    (kept.0, cut kept.0 s.words s.views id v kept.1 at live (v.parts - 1) 1 (omega arith) (omega arith))

pub makes_copy : (k : Start) (id : ℕ) (v : View) → v.live ≡ true → Splits (BoardHolds k) id v v (copied_view v)
makes_copy k id v live s kept table_at =
    let at = slice_get_from_get_elem s.views id v table_at in
    (kept.0, cut kept.0 s.words s.views id v kept.1 at live v.parts 0 (omega arith) (kept.1.small id v at).few)

before_join : (views : List View) (by other : ℕ) (w c : View) → ¬ (other ≡ by) → get_elem? (set views by w) other ≡ some c → slice_get views other ≡ Some c
before_join views by other w c apart e = sym (set_else views by other w apart) ∙ slice_get_from_get_elem (set views by w) other c e

pub takes_note : (k : Start) (id : ℕ) (v : View) (other : ℕ) (c : View) → v.live ≡ true → IsCopy c → Joins (BoardHolds k) id v other c (noted_view v c) spent_view
takes_note k id v other c live copy s kept table_at apart table_there =
    let at = slice_get_from_get_elem s.views id v table_at in
    let b = kept.0 in
    let h = kept.1 in
    let w : View = noted_view v c in
    let there = before_join s.views id other w c apart table_there in
    let f = h.fits id v at live in
    let m = h.small id v at in (
      b,
      joined_kept b s.words s.views id v h at live other c w apart there copy.live copy.count copy.parts copy.held (λ _. refl) (λ _. refl) refl (record { few = m.few; seen = m.seen; holder = λ i s e. live })
          (record {
            slots = f.slots;
            seen_slot = f.seen_slot;
            noted = (h.small other c there).seen;
            noted_slot = (h.fits other c there copy.live).seen_slot;
            told = f.told;
            told_current = f.told_current;
            holds = f.holds;
            publishes = f.publishes;
          })
          (λ j u e l. (record { names = (h.known j id u v e at l live).names }, record { names = (h.known id j v u at e live l).names }))
          (record { names = (h.known id id v v at at live live).names }),
    )

pub takes_told : (k : Start) (id : ℕ) (v : View) (other : ℕ) (c : View) → v.live ≡ true → v.publishes ≡ false → IsCopy c → Joins (BoardHolds k) id v other c (told_view v c) spent_view
takes_told k id v other c live reads copy s kept table_at apart table_there =
    let at = slice_get_from_get_elem s.views id v table_at in
    let b = kept.0 in
    let h = kept.1 in
    let w : View = told_view v c in
    let there = before_join s.views id other w c apart table_there in
    let f = h.fits id v at live in
    let g = h.fits other c there copy.live in
    let m = h.small id v at in (
      b,
      joined_kept b s.words s.views id v h at live other c w apart there copy.live copy.count copy.parts copy.held (λ _. refl) (λ _. refl) refl (record { few = m.few; seen = m.seen; holder = λ i s e. live })
          (record {
            slots = f.slots;
            seen_slot = f.seen_slot;
            noted = f.noted;
            noted_slot = f.noted_slot;
            told = g.told;
            told_current = g.told_current;
            holds = f.holds;
            publishes = λ e. absurd (true≢false (sym e ∙ reads));
          })
          (λ j u e l. (record { names = (h.known j id u v e at l live).names }, record { names = (h.known other j c u there e copy.live l).names }))
          (record { names = (h.known other id c v there at copy.live live).names }),
    )

-- the board at the start

zeros_take : (zs : List ℕ) (n : ℕ) → ((s : ℕ) → get_or zs s 0 ≡ 0) → (s : ℕ) → get_or (take n zs) s 0 ≡ 0
zeros_take zs zero z s = refl
zeros_take [] (suc n) z s = refl
zeros_take (x ∷ xs) (suc n) z zero = z zero
zeros_take (x ∷ xs) (suc n) z (suc s) = zeros_take xs n (λ i. z (suc i)) s

pub zeros_replicate : (n s : ℕ) → ◌≡◌ {A = ℕ} (get_or (replicate n 0) s 0) 0
zeros_replicate zero s = refl
zeros_replicate (suc n) zero = refl
zeros_replicate (suc n) (suc s) = zeros_replicate n s

no_totals : (n s : ℕ) (r : SlotRecord) → slice_get (replicate n unused) s ≡ Some r → r.total ≡ 0
no_totals zero s r e = absurd (none-some r e)
no_totals (suc n) zero r e = sym (ap (λ (x : SlotRecord). x.total) (same_Some unused r e))
no_totals (suc n) (suc s) r e = no_totals n s r e

first_totals : (slots id s : ℕ) (r : SlotRecord) → slice_get (first_records slots id) s ≡ Some r → r.total ≡ 0
first_totals slots id zero r e = sym (ap (λ (x : SlotRecord). x.total) (same_Some (slot_record (Some id) 0) r e))
first_totals slots id (suc s) r e = no_totals (slots - 1) s r e

module _ (slots id : ℕ) (some_slot : 0 < slots) (few : slots ≤ 64) (ids : id < 2 ^ 28) where
  abbrev v : View
  v = first_view (start_of slots id)

  abbrev b : BoardState
  b = record { id = id; records = first_records slots id; slot_of = λ i. 0; seat = 0 }

  first_length : length (first_records slots id) ≡ slots
  first_length = let e = length-replicate (slots - 1) unused in omega arith

  no_pins : current_pins b (v ∷ []) ≡ 0
  no_pins = let a = cond_le (eqb id id) 0 in omega arith

  here : IsInUse (first_records slots id) 0 id
  here = record { total = 0; is = refl }

  first_fits : Fits b 0 v
  first_fits = record {
    slots = refl;
    seen_slot = refl;
    noted = omega arith;
    noted_slot = refl;
    told = omega arith;
    told_current = here;
    holds = λ i s e. absurd (cc);
    publishes = λ _. (refl, refl, refl, refl);
  }

  only : (P : ℕ → View → Type 0) → P 0 v → (by : ℕ) (u : View) → slice_get (v ∷ []) by ≡ Some u → P by u
  only P of_v zero u e = subst (P 0) (same_Some v u e) of_v
  only P of_v (suc by) u e = absurd (none-some u e)

  opens_at : (zs : List ℕ) → length zs ≡ slots → ((s : ℕ) → get_or zs s 0 ≡ 0) → IsKept (id * 2 ^ 30 ∷ zs) (v ∷ [])
  opens_at zs width zeros = (
    b,
    record {
      width = let e = first_length in omega arith;
      few_slots = let e = first_length in omega arith;
      head = let e = no_pins in omega arith;
      ids = ids;
      current_is = here;
      few_parts = omega arith;
      balance = λ s r e. let t = first_totals slots id s r e in let z = zeros s in let p = no_pins in let c = cond_le (eqb s 0) (current_pins b (v ∷ [])) in omega arith;
      bounded = λ s r e. let t = first_totals slots id s r e in omega arith;
      free = λ s r e f. refl;
      small = only (λ _ u. IsBounded id u) (record { few = omega arith; seen = omega arith; holder = λ i s e. refl });
      fits = only (λ by u. u.live ≡ true → Fits b by u) (λ _. first_fits);
      known = λ x y c u ex ey lc lu. only (λ _ d. KnowsPin c d) (record { names = λ i s e le. absurd (cc) }) y u ey;
    },
  )

  abbrev zeros : List ℕ
  zeros = replicate 64 0

  zeros_length : length zeros ≡ 64
  zeros_length = length-replicate {A = ℕ} 64 0

  pub opens : IsKept (take (slots + 1) (id * 2 ^ 30 ∷ replicate 64 0)) (v ∷ [])
  opens =
      let more : suc slots ≡ slots + 1 = omega arith in
      let width : length (take slots zeros) ≡ slots = let e = length-take slots zeros in let f = zeros_length in omega arith in
      subst (λ n. IsKept (take n (id * 2 ^ 30 ∷ zeros)) (v ∷ [])) more (opens_at (take slots zeros) width (zeros_take zeros slots (zeros_replicate 64)))

  pub new_reader : (w : View) → w ≡ reader_view v → IsPinnersView w id 0 0 None
  new_reader w is = subst (λ x. IsPinnersView x id 0 0 None) (sym is) (record {
    live = refl;
    reads = refl;
    part = refl;
    id_is = refl;
    slot_is = refl;
    count_is = refl;
    few = omega arith;
    held_is = refl;
    few_slots = let e = first_length in omega arith;
    within = λ i s e. absurd (cc);
    held_below = λ i s e. absurd (cc);
  })

  pub new_publisher : (n : ℕ) (w : View) → w ≡ record v { parts = n } → IsPublishersView w id 0 (first_records slots id)
  new_publisher n w is = subst (λ x. IsPublishersView x id 0 (first_records slots id)) (sym is) (record {
    live = refl;
    publishes = refl;
    uncounted = refl;
    none_held = refl;
    id_is = refl;
    slot_is = refl;
    told_is = refl;
    records_are = refl;
    slots_are = refl;
    few = let e = first_length in omega arith;
    current_fits = let e = first_length in omega arith;
    id_fits = ids;
    current_is = refl;
  })

  pub board_words : length (take (slots + 1) (id * 2 ^ 30 ∷ replicate 64 0)) ≡ length (first_records slots id) + 1
  board_words = let e = first_length in let w = length-take (slots + 1) (id * 2 ^ 30 ∷ zeros) in let f = zeros_length in omega arith
