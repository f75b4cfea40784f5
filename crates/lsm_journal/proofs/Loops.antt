-- Lists that are made one element after another.
use Rattle.std.proofs.Common.{◌≡◌, ℕ, ◌+◌, ◌^◌, ◌<◌, ◌≤◌, ◌↔◌, List, [], ◌∷◌, ◌++◌, suc, get_or, length, map, take, drop, drop-cons, refl, sym, ◌∙◌, ap, subst, inl, inr, arith}
use Rattle.std.specs.List.{All}
use Rattle.std.proofs.lemmas.List.{take_more, take-append-drop}
use Rattle.lsm_codec.specs.Lists.{Has}
use Rattle.lsm_codec.proofs.CallerLemmas.{all_at, has_cases}
use Rattle.lsm_table.specs.Registry.{Table}
use Rattle.lsm_manifest.specs.Edit.{IsEdit}
use Rattle.lsm_manifest.specs.FileOrder.{TableFile}
use Rattle.lsm_manifest.specs.EditFit.{Change}
use Rattle.lsm_manifest.specs.declared.edit_fault.EditFault.{EditFault}
use Rattle.lsm_manifest.specs.EditReading.{edit_at}
use Rattle.lsm_manifest.specs.EditView as edit_view
use Rattle.lsm_manifest.specs.Manifest.{AreEdits}
use Rattle.lsm_manifest.proofs.CallerLemmas.{edits_push}
use Rattle.lsm_version.specs.Versions.{level_in}
use Rattle.lsm_journal.specs.Recorded.{meta_of}
use Rattle.lsm_journal.specs.Recovering.{IsRecordRefusal}
use Rattle.lsm_journal.specs.Writing.{metas_of}
use Rattle.lsm_journal.proofs.Wholes.{all_from}

pub edits_more : (rs : List (List ℕ)) (i : ℕ) (r : List ℕ) (es after : List Change) (e : Change) → i < length rs → r ≡ get_or rs i r → AreEdits (take i rs) es → IsEdit r e → after ≡ es ++ e ∷ [] → AreEdits (take (i + 1) rs) after
edits_more rs i r es after e lt at before is step =
    let one : take (i + 1) rs ≡ take i rs ++ r ∷ [] = take_more rs i r lt ∙ ap (λ z. take i rs ++ z ∷ []) (sym at) in
    subst (λ (xs : List (List ℕ)). AreEdits xs after) (sym one) (subst (AreEdits (take i rs ++ r ∷ [])) (sym step) (edits_push (take i rs) es r e before is))

pub record_refused : (rs : List (List ℕ)) (i : ℕ) (r : List ℕ) (es : List Change) (e : EditFault) → i < length rs → r ≡ get_or rs i r → AreEdits (take i rs) es → edit_view.Fails e (edit_at r) → IsRecordRefusal rs e
record_refused rs i r es e lt at before fault = record {
  front = take i rs;
  one = r;
  back = drop (suc i) rs;
  parts = sym (take-append-drop i rs) ∙ ap (λ xs. take i rs ++ xs) (drop-cons rs i r lt ∙ ap (λ x. x ∷ drop (suc i) rs) (sym at));
  edits = es;
  before = before;
  fault = fault;
}

pub all_moved : {X : Type 0} (P : X → Type 0) (xs ys : List X) → ((x : X) → Has ys x ↔ Has xs x) → All P xs → All P ys
all_moved P xs ys same all = all_from P ys (λ x h. all_at P xs x all ((same x).0 h))

-- ---- seven places

pub seven_keys : {A : Type 0} (d : A) (xs : List A) → length xs ≡ 7
    → get_or xs 0 d ∷ get_or xs 1 d ∷ get_or xs 2 d ∷ get_or xs 3 d ∷ get_or xs 4 d ∷ get_or xs 5 d ∷ get_or xs 6 d ∷ [] ≡ xs
seven_keys d [] e = absurd (omega arith)
seven_keys d (x0 ∷ []) e = absurd (omega arith)
seven_keys d (x0 ∷ x1 ∷ []) e = absurd (omega arith)
seven_keys d (x0 ∷ x1 ∷ x2 ∷ []) e = absurd (omega arith)
seven_keys d (x0 ∷ x1 ∷ x2 ∷ x3 ∷ []) e = absurd (omega arith)
seven_keys d (x0 ∷ x1 ∷ x2 ∷ x3 ∷ x4 ∷ []) e = absurd (omega arith)
seven_keys d (x0 ∷ x1 ∷ x2 ∷ x3 ∷ x4 ∷ x5 ∷ []) e = absurd (omega arith)
seven_keys d (x0 ∷ x1 ∷ x2 ∷ x3 ∷ x4 ∷ x5 ∷ x6 ∷ []) e = refl
seven_keys d (x0 ∷ x1 ∷ x2 ∷ x3 ∷ x4 ∷ x5 ∷ x6 ∷ x7 ∷ xs) e = absurd (omega arith)

pub seven_levels : (ts : List (List Table)) → length ts ≡ 7
    → map meta_of (level_in ts 0) ∷ map meta_of (level_in ts 1) ∷ map meta_of (level_in ts 2) ∷ map meta_of (level_in ts 3) ∷ map meta_of (level_in ts 4) ∷ map meta_of (level_in ts 5) ∷ map meta_of (level_in ts 6) ∷ [] ≡ metas_of ts
seven_levels [] e = absurd (omega arith)
seven_levels (x0 ∷ []) e = absurd (omega arith)
seven_levels (x0 ∷ x1 ∷ []) e = absurd (omega arith)
seven_levels (x0 ∷ x1 ∷ x2 ∷ []) e = absurd (omega arith)
seven_levels (x0 ∷ x1 ∷ x2 ∷ x3 ∷ []) e = absurd (omega arith)
seven_levels (x0 ∷ x1 ∷ x2 ∷ x3 ∷ x4 ∷ []) e = absurd (omega arith)
seven_levels (x0 ∷ x1 ∷ x2 ∷ x3 ∷ x4 ∷ x5 ∷ []) e = absurd (omega arith)
seven_levels (x0 ∷ x1 ∷ x2 ∷ x3 ∷ x4 ∷ x5 ∷ x6 ∷ []) e = refl
seven_levels (x0 ∷ x1 ∷ x2 ∷ x3 ∷ x4 ∷ x5 ∷ x6 ∷ x7 ∷ xs) e = absurd (omega arith)

pub keys_are : {A : Type 0} (d : A) (xs : List A) (k0 k1 k2 k3 k4 k5 k6 : A) → length xs ≡ 7 → k0 ≡ get_or xs 0 d → k1 ≡ get_or xs 1 d → k2 ≡ get_or xs 2 d → k3 ≡ get_or xs 3 d → k4 ≡ get_or xs 4 d
    → k5 ≡ get_or xs 5 d → k6 ≡ get_or xs 6 d → k0 ∷ k1 ∷ k2 ∷ k3 ∷ k4 ∷ k5 ∷ k6 ∷ [] ≡ xs
keys_are d xs k0 k1 k2 k3 k4 k5 k6 seven e0 e1 e2 e3 e4 e5 e6 = rw (e0, e1, e2, e3, e4, e5, e6) (seven_keys d xs seven)

pub metas_are : (ts : List (List Table)) (l0 l1 l2 l3 l4 l5 l6 : List Table) (m0 m1 m2 m3 m4 m5 m6 : List TableFile) → length ts ≡ 7
    → m0 ≡ map meta_of l0 → m1 ≡ map meta_of l1 → m2 ≡ map meta_of l2 → m3 ≡ map meta_of l3 → m4 ≡ map meta_of l4 → m5 ≡ map meta_of l5 → m6 ≡ map meta_of l6
    → l0 ≡ level_in ts 0 → l1 ≡ level_in ts 1 → l2 ≡ level_in ts 2 → l3 ≡ level_in ts 3 → l4 ≡ level_in ts 4 → l5 ≡ level_in ts 5 → l6 ≡ level_in ts 6
    → m0 ∷ m1 ∷ m2 ∷ m3 ∷ m4 ∷ m5 ∷ m6 ∷ [] ≡ metas_of ts
metas_are ts l0 l1 l2 l3 l4 l5 l6 m0 m1 m2 m3 m4 m5 m6 seven a0 a1 a2 a3 a4 a5 a6 b0 b1 b2 b3 b4 b5 b6 =
    rw (a0, a1, a2, a3, a4, a5, a6, b0, b1, b2, b3, b4, b5, b6) (seven_levels ts seven)

pub small_more : (added : List (ℕ × Table)) (i : ℕ) (a : ℕ × Table) → i < length added → a ≡ get_or added i a → length a.1.image ≤ 2 ^ 30
    → ((n : ℕ) (t : Table) → Has (take i added) (n, t) → length t.image ≤ 2 ^ 30) → (n : ℕ) (t : Table) → Has (take (i + 1) added) (n, t) → length t.image ≤ 2 ^ 30
small_more added i a lt at small before n t h =
    let one : take (i + 1) added ≡ take i added ++ a ∷ [] = take_more added i a lt ∙ ap (λ z. take i added ++ z ∷ []) (sym at) in
    elim (has_cases (take i added) (a ∷ []) (n, t) (subst (λ (xs : List (ℕ × Table)). Has xs (n, t)) one h)) [
      | inl k ↦ before n t k
      | inr k ↦ elim k [ inl e ↦ subst (λ (x : ℕ × Table). length x.1.image ≤ 2 ^ 30) e small | inr none ↦ absurd none ]
    ]
