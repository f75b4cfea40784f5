-- What is found of gathering among a level's first tables.
use Rattle.std.proofs.Common.{◌≡◌, ℕ, zero, suc, ◌+◌, ◌<◌, ◌≤◌, Bool, true, false, List, [], ◌∷◌, length, get_or, take, sym, ◌∙◌, subst, inl, inr, arith}
use Rattle.std.specs.Prelude.{◌⊎◌, Option, Some, None, cond, nat_le}
use Rattle.std.proofs.lemmas.Bool.{cases_Bool, cases_lt, le-leb, leb-true}
use Rattle.std.proofs.lemmas.List.{take_more}
use Rattle.lsm_codec.specs.Lists.{Has}
use Rattle.lsm_codec.proofs.CallerLemmas.{has_cases}
use Rattle.lsm_table.specs.Registry.{Table}
use Rattle.lsm_picker.specs.Gathering.{AllMayGather, CanGather, IsFirstAbove, IsGreater, IsLastToStay, IsLesser, Joins, newest}
use Rattle.lsm_picker.specs.Reservations.{Reserved}

has_more : (ts : List Table) (i : ℕ) (x t : Table) → i < length ts → x ≡ get_or ts i x → Has (take (i + 1) ts) t → Has (take i ts) t ⊎ (x ≡ t)
has_more ts i x t lt is h = elim (has_cases (take i ts) (get_or ts i x ∷ []) t (subst (λ (us : List Table). Has us t) (take_more ts i x lt) h)) [
  | inl old ↦ inl old
  | inr own ↦ elim own [ inl e ↦ inr (is ∙ e) | inr none ↦ absurd none ]
]

-- to these is added the one at the index, which has the property
pub each_more : (P : Table → Type 0) (ts : List Table) (i : ℕ) (x : Table) → i < length ts → x ≡ get_or ts i x → ((t : Table) → Has (take i ts) t → P t) → P x
    → (t : Table) → Has (take (i + 1) ts) t → P t
each_more P ts i x lt is before own t h = elim (has_more ts i x t lt is h) [ inl old ↦ before t old | inr e ↦ subst P e own ]

pub item_has : (ts : List Table) (i : ℕ) (x : Table) → i < length ts → x ≡ get_or ts i x → Has ts x
item_has [] i x lt is = absurd (omega arith)
item_has (t ∷ ts) zero x lt is = inl (sym is)
item_has (t ∷ ts) (suc i) x lt is = inr (item_has ts i x (omega arith) is)

-- fewer are from a greater number on
newest_less : (n m : ℕ) → n ≤ m → (ts : List Table) → length (newest m ts) ≤ length (newest n ts)
newest_less n m le [] = omega arith
newest_less n m le (t ∷ ts) = (let more = newest_less n m le ts in elim (cases_Bool (nat_le m t.number)) [
  | inl here ↦ (let there : nat_le n t.number ≡ true = le-leb n t.number (let below = leb-true m t.number here in omega (arith, le, below)) in
      subst (λ (b : Bool). length (cond b (t ∷ newest m ts) (newest m ts)) ≤ length (newest n (t ∷ ts))) (sym here)
      (subst (λ (b : Bool). suc (length (newest m ts)) ≤ length (cond b (t ∷ newest n ts) (newest n ts))) (sym there) (omega (arith, more))))
  | inr off ↦ subst (λ (b : Bool). length (cond b (t ∷ newest m ts) (newest m ts)) ≤ length (newest n (t ∷ ts))) (sym off)
      (go (nat_le n t.number) more)
])
  where
    go : (b : Bool) → length (newest m ts) ≤ length (newest n ts) → length (newest m ts) ≤ length (cond b (t ∷ newest n ts) (newest n ts))
    go true more = omega (arith, more)
    go false more = more

-- no such one of these is the oldest of eight
abbrev pub NoEight : ℕ → List Reserved → List Table → List Table → Type 0
NoEight target_size rs ts us = (t : Table) → Has us t → AllMayGather target_size rs ts t.number → 8 ≤ length (newest t.number ts) → ⊥

-- ---- the first above the last that stays

module _ (ts : List Table) (i : ℕ) (x : Table) (lt : i < length ts) (is : x ≡ get_or ts i x) where
  pub above_more : (last least : Option ℕ) (n : ℕ) → n ≡ x.number → IsGreater n last → IsLesser n least
      → IsFirstAbove last ts (take i ts) least → IsFirstAbove last ts (take (i + 1) ts) (Some n)
  above_more last least n number greater lesser f =
      ((x, item_has ts i x lt is, sym number, greater), each_more (λ t. IsGreater t.number last → n ≤ t.number) ts i x lt is (λ t h g. before least lesser f t h g) (λ g. omega (arith, number)))
    where
      before : (least : Option ℕ) → IsLesser n least → IsFirstAbove last ts (take i ts) least → (t : Table) → Has (take i ts) t → IsGreater t.number last → n ≤ t.number
      before None l f t h g = absurd (f t h g)
      before (Some m) l f t h g = (let le = f.1 t h g in omega (arith, le, l))

  pub above_same : (last least : Option ℕ) → (IsGreater x.number last → ⊥) ⊎ (IsLesser x.number least → ⊥)
      → IsFirstAbove last ts (take i ts) least → IsFirstAbove last ts (take (i + 1) ts) least
  above_same last None why f = each_more (λ t. IsGreater t.number last → ⊥) ts i x lt is f (λ g. elim why [ inl not ↦ not g | inr not ↦ not tt ])
  above_same last (Some m) why f = (
    f.0,
    each_more (λ t. IsGreater t.number last → m ≤ t.number) ts i x lt is f.1 (λ g. elim why [
      | inl not ↦ absurd (not g)
      | inr not ↦ elim (cases_lt x.number m) [ inl lower ↦ absurd (not lower) | inr ge ↦ omega (arith, ge) ]
    ]),
  )

module _ (target_size : ℕ) (rs : List Reserved) (ts : List Table) where
  -- ---- the last that stays

  module _ (i : ℕ) (x : Table) (lt : i < length ts) (is : x ≡ get_or ts i x) where
    pub stay_more : (last : Option ℕ) (n : ℕ) → n ≡ x.number → IsGreater n last → (Joins target_size rs ts x → ⊥)
        → IsLastToStay target_size rs ts (take i ts) last → IsLastToStay target_size rs ts (take (i + 1) ts) (Some n)
    stay_more last n number greater stays f =
        ((x, item_has ts i x lt is, sym number, stays), each_more (λ t. n < t.number → Joins target_size rs ts t) ts i x lt is (λ t h above. before last greater f t h above) (λ above. absurd (omega (arith, number, above))))
      where
        before : (last : Option ℕ) → IsGreater n last → IsLastToStay target_size rs ts (take i ts) last → (t : Table) → Has (take i ts) t → n < t.number → Joins target_size rs ts t
        before None g f t h above = f t h
        before (Some m) g f t h above = f.1 t h (omega (arith, g, above))

    pub stay_same : (last : Option ℕ) → Joins target_size rs ts x ⊎ (IsGreater x.number last → ⊥)
        → IsLastToStay target_size rs ts (take i ts) last → IsLastToStay target_size rs ts (take (i + 1) ts) last
    stay_same None why f = each_more (Joins target_size rs ts) ts i x lt is f (elim why [ inl j ↦ j | inr not ↦ absurd (not tt) ])
    stay_same (Some m) why f = (f.0, each_more (λ t. m < t.number → Joins target_size rs ts t) ts i x lt is f.1 (λ above. elim why [ inl j ↦ j | inr not ↦ absurd (not above) ]))

  -- ---- the whole

  -- where the files from a table on can be gathered, it is above the last that stays
  can_above : (last : Option ℕ) → IsLastToStay target_size rs ts ts last → (t : Table) → CanGather target_size rs ts t → IsGreater t.number last
  can_above None f t can = tt
  can_above (Some m) f t can = elim (cases_lt m t.number) [
    | inl above ↦ above
    | inr below ↦ (let s = f.0 in let le : t.number ≤ s.0.number = omega (arith, below, s.2) in absurd (s.3 (can.all s.0 s.1 le, can.worth s.0 s.1 le)))
  ]

  above_joins : (last : Option ℕ) → IsLastToStay target_size rs ts ts last → (n : ℕ) → IsGreater n last → (t : Table) → Has ts t → n ≤ t.number → Joins target_size rs ts t
  above_joins None f n g t h le = f t h
  above_joins (Some m) f n g t h le = f.1 t h (omega (arith, g, le))

  pub none_above : (last : Option ℕ) → IsLastToStay target_size rs ts ts last → IsFirstAbove last ts ts None → (t : Table) → Has ts t → CanGather target_size rs ts t → ⊥
  none_above last stay first t h can = first t h (can_above last stay t can)

  pub few_above : (last : Option ℕ) (n : ℕ) → IsLastToStay target_size rs ts ts last → IsFirstAbove last ts ts (Some n) → length (newest n ts) < 2 → (t : Table) → Has ts t → CanGather target_size rs ts t → ⊥
  few_above last n stay first few t h can = (let le = newest_less n t.number (first.1 t h (can_above last stay t can)) ts in let two = can.two in omega (arith, le, two, few))

  pub can_from : (last : Option ℕ) (n : ℕ) → IsLastToStay target_size rs ts ts last → (f : IsFirstAbove last ts ts (Some n)) → 2 ≤ length (newest n ts) → CanGather target_size rs ts f.0.0
  can_from last n stay first two = record {
    all = λ t h le. (joins t h le).0;
    worth = λ t h le. (joins t h le).1;
    two = subst (λ (m : ℕ). 2 ≤ length (newest m ts)) (sym first.0.2) two;
  }
    where
      joins : (t : Table) → Has ts t → first.0.0.number ≤ t.number → Joins target_size rs ts t
      joins t h le = above_joins last stay n first.0.3 t h (omega (arith, le, first.0.2))

  pub least_from : (last : Option ℕ) (n : ℕ) → IsLastToStay target_size rs ts ts last → IsFirstAbove last ts ts (Some n) → (t : Table) → Has ts t → CanGather target_size rs ts t → n ≤ t.number
  least_from last n stay first t h can = first.1 t h (can_above last stay t can)
