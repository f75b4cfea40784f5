-- The numbers that are kept.
use Rattle.std.proofs.Common.{◌≡◌, ℕ, zero, suc, true, false, ◌<◌, ◌≤◌, ◌==◌, Option, Some, None, List, [], ◌∷◌, ◌++◌, length, get_or, map, refl, sym, ap, ◌∙◌, subst, inl, inr, arith}
use Rattle.std.specs.Prelude.{◌↔◌, Result, Ok, Err, IfOk, IfSome, is_ok, slice_get, slice_set}
use Rattle.std.specs.List.Sorted.{IsBinarySearchResult, IsStrictlyIncreasing}
use Rattle.std.specs.Ordering.{nat_cmp}
use Rattle.std.proofs.lemmas.Bool.{cases_eq, cases_lt, eq-eqb, eqb-true}
use Rattle.std.proofs.lemmas.List.{get_or_default}
use Rattle.std.proofs.lemmas.List.Kept.{AllPairs-from_increasing}
use Rattle.std.proofs.lemmas.List.Sorted.{searched}
use Rattle.lsm_codec.specs.Lists.{Has}
use Rattle.lsm_codec.proofs.CallerLemmas.{any_at, any_says, contains_from, contains_says, flat_has, has_cases, has_flat, has_left, has_right}
use Rattle.lsm_model.specs.Files.{File}
use Rattle.lsm_model.proofs.CallerLemmas.{true_or_not}
use Rattle.lsm_version.specs.Versions.{files, numbers_in}
use Rattle.lsm_slots.specs.Slots.{Epoch, HasEpoch, Looked, PinsMove, Slotted, numbers_at, numbers_held}
use Rattle.lsm_slots.proofs.CallerLemmas.{set_else, set_found}
use Rattle.lsm_live.specs.Booked.{Booked, drawn_numbers}
use Rattle.lsm_state.specs.Held.{Held}
use Rattle.lsm_state.specs.Collecting.{IsKeptNumber, is_in}

-- ---- versions in slots

-- a version that has a slot names the number
pub record IsNamed (es : List (Option Epoch)) (n : ℕ) : Type 0 where
  pub slot : ℕ
  pub epoch : Epoch
  pub had : slice_get es slot ≡ Some (Some epoch)
  pub number : Has (numbers_in epoch.version) n

pub held_named : (es : List (Option Epoch)) (n : ℕ) → Has (numbers_held es) n → IsNamed es n
held_named [] n h = absurd h
held_named (None ∷ es) n h = (let r = held_named es n h in record { slot = suc r.slot; epoch = r.epoch; had = r.had; number = r.number })
held_named (Some e ∷ es) n h = elim (has_cases (numbers_in e.version) (numbers_held es) n h) [
  | inl here ↦ record { slot = zero; epoch = e; had = refl; number = here }
  | inr later ↦ (let r = held_named es n later in record { slot = suc r.slot; epoch = r.epoch; had = r.had; number = r.number })
]

pub named_held : (es : List (Option Epoch)) (slot n : ℕ) (e : Epoch) → slice_get es slot ≡ Some (Some e) → Has (numbers_in e.version) n → Has (numbers_held es) n
named_held [] slot n e had h = (let no : None ≡ Some (Some e) = had in cc)
named_held (o ∷ es) zero n e had h = (let is : Some o ≡ Some (Some e) = had in let same : o ≡ Some e = cc in has_left (numbers_at o) (numbers_held es) n (subst (λ x. Has (numbers_at x) n) (sym same) h))
named_held (o ∷ es) (suc slot) n e had h = has_right (numbers_at o) (numbers_held es) n (named_held es slot n e had h)

-- looks free slots only
pub looked_numbers : (old new : Slotted) (n : ℕ) → Looked old new → Has (numbers_held new.epochs) n → Has (numbers_held old.epochs) n
looked_numbers old new n l h = go (held_named new.epochs n h)
  where
    go : IsNamed new.epochs n → Has (numbers_held old.epochs) n
    go r = elim (l.each r.slot) [
      | inl same ↦ named_held old.epochs r.slot n r.epoch (sym same ∙ r.had) r.number
      | inr freed ↦ (let both : Some None ≡ Some (Some r.epoch) = sym freed.free ∙ r.had in cc)
    ]

-- pins change no version
pub pinned_numbers : (old new : Slotted) (id from to n : ℕ) → PinsMove old new id from to → Has (numbers_held new.epochs) n → Has (numbers_held old.epochs) n
pinned_numbers old new id from to n m h = go (held_named new.epochs n h)
  where
    after : Option Epoch
    after = Some (record m.epoch { pins = to })

    go : IsNamed new.epochs n → Has (numbers_held old.epochs) n
    go r = (let had : slice_get (slice_set old.epochs m.slot after) r.slot ≡ Some (Some r.epoch) = ap (λ (s : Slotted). slice_get s.epochs r.slot) (sym m.is) ∙ r.had in elim (cases_eq r.slot m.slot) [
      | inl same ↦ (
          let here : slice_get (slice_set old.epochs m.slot after) m.slot ≡ Some (Some r.epoch) = subst (λ i. slice_get (slice_set old.epochs m.slot after) i ≡ Some (Some r.epoch)) same had in
          let both : Some after ≡ Some (Some r.epoch) = sym (set_found old.epochs m.slot after (Some r.epoch) here) ∙ here in
          let is : record m.epoch { pins = to } ≡ r.epoch = cc in
          named_held old.epochs m.slot n m.epoch m.had (subst (λ (e : Epoch). Has (numbers_in e.version) n) (sym is) r.number))
      | inr other ↦ named_held old.epochs r.slot n r.epoch (sym (set_else old.epochs m.slot r.slot after other) ∙ had) r.number
    ])

-- ---- numbers of what a list has

pub map_has : {X : Type 0} (f : X → ℕ) (xs : List X) (n : ℕ) → Has (map f xs) n → (x : X) × Has xs x × (f x ≡ n)
map_has f [] n h = absurd h
map_has f (x ∷ xs) n (inl e) = (x, inl refl, e)
map_has f (x ∷ xs) n (inr h) = (let r = map_has f xs n h in (r.0, inr r.1, r.2))

pub has_map : {X : Type 0} (f : X → ℕ) (xs : List X) (x : X) → Has xs x → Has (map f xs) (f x)
has_map f [] x h = absurd h
has_map f (y ∷ xs) x (inl e) = inl (ap f e)
has_map f (y ∷ xs) x (inr h) = inr (has_map f xs x h)

-- ---- a search in ascending numbers

rises : (ns : List ℕ) → IsStrictlyIncreasing ns → (i j : ℕ) → i ≤ j → j < length ns → get_or ns i 0 ≤ get_or ns j 0
rises ns up i j le lt = elim (cases_eq i j) [
  | inl same ↦ (let e = ap (λ k. get_or ns k 0) same in omega arith)
  | inr other ↦ (let less = AllPairs-from_increasing ns up i j 0 (omega arith) lt in omega arith)
]

pub found_among : (ns : List ℕ) (n : ℕ) (r : Result ℕ ℕ) → IsBinarySearchResult (λ y. nat_cmp y n) ns r → IsStrictlyIncreasing ns → is_ok r ≡ is_in ns n
found_among ns n (Ok i) h up =
    let at = searched ns n (Ok i) h (rises ns up) in
    sym (any_at (λ m. m == n) ns n (contains_says ns n (i, at.0, get_or_default ns i n 0 at.0 ∙ at.1)) (eq-eqb n n refl))
found_among ns n (Err i) h up =
    sym (true_or_not (is_in ns n) (λ t.
    (let a = any_says (λ m. m == n) ns t in
    let same : a.0 ≡ n = eqb-true a.0 n a.2 in
    let at = contains_from ns a.0 a.1 in
    let value : get_or ns at.0 0 ≡ n = get_or_default ns at.0 0 a.0 at.1 ∙ at.2 ∙ same in
    let parts = searched ns n (Err i) h (rises ns up) in
    elim (cases_lt at.0 i) [
      | inl below ↦ (let lt = parts.1 at.0 below in absurd (omega arith))
      | inr above ↦ (let lt = parts.2 at.0 above at.1 in absurd (omega arith))
    ])))

-- ---- what is kept

pub kept_from : (h : Held) (n : ℕ) → Has (numbers_held h.slots.epochs ++ drawn_numbers h.live) n → IsKeptNumber h n
kept_from h n k = elim (has_cases (numbers_held h.slots.epochs) (drawn_numbers h.live) n k) [
  | inl held ↦ (let r = held_named h.slots.epochs n held in let f = map_has (λ (F : File). F.number) (files r.epoch.version) n r.number in inl (r.slot, r.epoch, f.0, r.had, f.1, f.2))
  | inr drawn ↦ (let r = flat_has (λ (b : Booked). b.drawn) h.live n drawn in inr (r.0, r.1, r.2))
]

pub kept_to : (h : Held) (n : ℕ) → IsKeptNumber h n → Has (numbers_held h.slots.epochs ++ drawn_numbers h.live) n
kept_to h n (inl r) = has_left (numbers_held h.slots.epochs) (drawn_numbers h.live) n (named_held h.slots.epochs r.0 n r.1 r.3 (subst (λ m. Has (numbers_in r.1.version) m) r.5 (has_map (λ (F : File). F.number) (files r.1.version) r.2 r.4)))
kept_to h n (inr r) = has_right (numbers_held h.slots.epochs) (drawn_numbers h.live) n (has_flat (λ (b : Booked). b.drawn) h.live r.0 n r.1 r.2)

-- the versions in slots stay, and what live jobs drew, so the same is kept
same_kept : (h : Held) (s : Slotted) → numbers_held s.epochs ≡ numbers_held h.slots.epochs → (n : ℕ) → IsKeptNumber (record h { slots = s }) n ↔ IsKeptNumber h n
same_kept h s same n = (
  λ k. kept_from h n (subst (λ ns. Has (ns ++ drawn_numbers h.live) n) same (kept_to (record h { slots = s }) n k)),
  λ k. kept_from (record h { slots = s }) n (subst (λ ns. Has (ns ++ drawn_numbers h.live) n) (sym same) (kept_to h n k)),
)

other_pins : (es : List (Option Epoch)) (slot to : ℕ) (e : Epoch) → slice_get es slot ≡ Some (Some e) → numbers_held (slice_set es slot (Some (record e { pins = to }))) ≡ numbers_held es
other_pins [] slot to e had = (let no : None ≡ Some (Some e) = had in cc)
other_pins (o ∷ es) zero to e had = (let is : Some o ≡ Some (Some e) = had in let same : o ≡ Some e = cc in ap (λ x. numbers_at x ++ numbers_held es) (sym same))
other_pins (o ∷ es) (suc slot) to e had = ap (λ ns. numbers_at o ++ ns) (other_pins es slot to e had)

pub pinned_kept : (h : Held) (s : Slotted) (id from to : ℕ) → PinsMove h.slots s id from to → (n : ℕ) → IsKeptNumber (record h { slots = s }) n ↔ IsKeptNumber h n
pinned_kept h s id from to m = same_kept h s (ap (λ (x : Slotted). numbers_held x.epochs) m.is ∙ other_pins h.slots.epochs m.slot to m.epoch m.had)

pub unpinned_kept : (h : Held) (s : Slotted) → s ≡ h.slots → (n : ℕ) → IsKeptNumber (record h { slots = s }) n ↔ IsKeptNumber h n
unpinned_kept h s is = same_kept h s (ap (λ (x : Slotted). numbers_held x.epochs) is)

-- looks free slots only, so no more is kept
pub looked_kept : (h : Held) (s : Slotted) → Looked h.slots s → (n : ℕ) → IsKeptNumber (record h { slots = s }) n → IsKeptNumber h n
looked_kept h s l n k = elim (has_cases (numbers_held s.epochs) (drawn_numbers h.live) n (kept_to (record h { slots = s }) n k)) [
  | inl held ↦ kept_from h n (has_left (numbers_held h.slots.epochs) (drawn_numbers h.live) n (looked_numbers h.slots s n l held))
  | inr drawn ↦ kept_from h n (has_right (numbers_held h.slots.epochs) (drawn_numbers h.live) n drawn)
]

-- the tables of a version that has a slot are kept
pub version_kept : (h : Held) (slot n : ℕ) (e : Epoch) → HasEpoch h.slots slot e → Has (numbers_in e.version) n → IsKeptNumber h n
version_kept h slot n e had k = (let f = map_has (λ (F : File). F.number) (files e.version) n k in inl (slot, e, f.0, had, f.1, f.2))

pub kept_if : {V E : Type 0} (items : V → List ℕ) (h : Held) (held : Option (ℕ × ℕ)) (r : Result (Option V) E)
    → IfOk r (λ o. IfSome o (λ v. (slot : ℕ) × (id : ℕ) × (e : Epoch) × (held ≡ Some (id, slot)) × HasEpoch h.slots slot e × (e.id ≡ id) × (items v ≡ numbers_in e.version)))
    → IfOk r (λ o. IfSome o (λ v. (n : ℕ) → Has (items v) n → IsKeptNumber h n))
kept_if items h held (Ok (Some v)) m = λ n k. version_kept h m.0 n m.2 m.4 (subst (λ ns. Has ns n) m.6 k)
kept_if items h held (Ok None) m = m
kept_if items h held (Err e) m = m

-- ---- a number among the kept ones

pub among_kept : (h : Held) (kept : List ℕ) (n : ℕ) → ((m : ℕ) → Has kept m ↔ IsKeptNumber h m) → is_in kept n ≡ true → IsKeptNumber h n
among_kept h kept n are found =
    (let a = any_says (λ m. m == n) kept found in let same : a.0 ≡ n = eqb-true a.0 n a.2 in (are n).0 (subst (λ m. Has kept m) same a.1))

pub not_among_kept : (h : Held) (kept : List ℕ) (n : ℕ) → ((m : ℕ) → Has kept m ↔ IsKeptNumber h m) → is_in kept n ≡ false → IsKeptNumber h n → ⊥
not_among_kept h kept n are none k =
    (let found : is_in kept n ≡ true = any_at (λ m. m == n) kept n ((are n).1 k) (eq-eqb n n refl) in absurd (cc))
