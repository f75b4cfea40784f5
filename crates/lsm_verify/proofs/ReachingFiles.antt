-- Which tables of level 0 reach an older one.
use Rattle.std.proofs.Common.{◌≡◌, ℕ, ◌+◌, ◌-◌, ◌<◌, ◌≤◌, List, [], ◌∷◌, ◌++◌, length, get_or, take, max, refl, sym, ◌∙◌, ap, subst, inl, inr, arith}
use Rattle.std.specs.List.Sorted.{IsNonDecreasing, IsNonDecreasingBy, IsPermutation}
use Rattle.std.proofs.lemmas.Bool.{cases_lt}
use Rattle.std.proofs.lemmas.List.{get_or_default}
use Rattle.std.proofs.lemmas.List.Sorted.{Contains-permutation, IsNonDecreasingBy-push}
use Rattle.lsm_codec.specs.Lists.{Has}
use Rattle.lsm_codec.proofs.CallerLemmas.{contains_from, contains_says, has_cases, has_left, has_right}
use Rattle.lsm_table.specs.Registry.{Table}
use Rattle.lsm_model.specs.Files.{File}
use Rattle.lsm_verify.specs.Settled.{AreAged, Between, IsAged, IsUnsettled, NamesReaching, NamesUnsettled}
use Rattle.lsm_version.specs.Versions.{file_of, files_of, level_in}
use Rattle.lsm_verify.specs.declared.aged.Aged.{Aged}
use Rattle.lsm_version.proofs.CallerLemmas.{level_of_files, files_push, took}
use Rattle.lsm_verify.proofs.LevelReads.{has_at}
use Rattle.lsm_verify.proofs.UnsettledFiles.{reach_sequences}

-- ---- the tables with their ages

pub aged_more : (level : ℕ) (ts : List Table) (i : ℕ) (x : Table) (a : Aged) (ages more : List Aged) → i < length ts → x ≡ get_or ts i x → IsAged (file_of level x) a → more ≡ ages ++ a ∷ []
    → AreAged (files_of level (take i ts)) ages → AreAged (files_of level (take (i + 1) ts)) more
aged_more level ts i x a ages more lt at own is aged F h =
    elim (files_push level (take i ts) x F (subst (λ (us : List Table). Has (files_of level us) F) (took ts i x lt at) h)) [
      | inl before ↦ (let r = aged F before in (r.0, there r.0 (has_left ages (a ∷ []) r.0 r.1), r.2))
      | inr same ↦ (a, there a (has_right ages (a ∷ []) a (inl refl)), subst (λ (G : File). IsAged G a) same own)
    ]
  where
    there : (b : Aged) → Has (ages ++ a ∷ []) b → Has more b
    there b k = subst (λ (known : List Aged). Has known b) (sym is) k

pub aged_moved : (v : List File) (ages moved : List Aged) → IsPermutation ages moved → AreAged v ages → AreAged v moved
aged_moved v ages moved p aged F h = (let r = aged F h in (r.0, contains_says moved r.0 (Contains-permutation ages moved r.0 p (contains_from ages r.0 r.1)), r.2))

-- ---- the walk by number

-- What the walk knows after the first k: none of their sequences is above the greatest; those of them that reach an earlier one are named;
-- and the names ascend, none above the number of a later one.
pub record Walked (ages : List Aged) (k greatest : ℕ) (numbers : List ℕ) : Type 0 where
  pub below : (j : ℕ) (d : Aged) → j < k → (get_or ages j d).sequences.greatest ≤ greatest
  pub named : (i j : ℕ) (d : Aged) → j < i → i < k → (get_or ages i d).sequences.least ≤ (get_or ages j d).sequences.greatest → Has numbers (get_or ages i d).number
  pub ahead : (n j : ℕ) (d : Aged) → Has numbers n → k ≤ j → j < length ages → n ≤ (get_or ages j d).number
  pub ascending : IsNonDecreasing numbers

pub walk_start : (ages : List Aged) → Walked ages 0 0 []
walk_start ages = record {
  below = λ j d lt. absurd (omega arith);
  named = λ i j d lt inside le. absurd (omega arith);
  ahead = λ n j d h. absurd h;
  ascending = λ i j d le lt. absurd (omega arith);
}

-- the element at k, by any default
here : (ages : List Aged) (j k : ℕ) (d e : Aged) → k < length ages → k ≤ j → j < k + 1 → get_or ages j d ≡ get_or ages k e
here ages j k d e inside le lt = let same : j ≡ k = omega arith in ap (λ n. get_or ages n d) same ∙ get_or_default ages k d e inside

below_more : (ages : List Aged) (k g : ℕ) (d : Aged) → k < length ages → ((j : ℕ) (e : Aged) → j < k → (get_or ages j e).sequences.greatest ≤ g)
    → (j : ℕ) (e : Aged) → j < k + 1 → (get_or ages j e).sequences.greatest ≤ max g (get_or ages k d).sequences.greatest
below_more ages k g d inside below j e lt = elim (cases_lt j k) [
  | inl before ↦ (let le = below j e before in omega arith)
  | inr last ↦ (let same = ap (λ (a : Aged). a.sequences.greatest) (here ages j k e d inside last lt) in omega arith)
]

-- one that reaches none before it
pub walk_past : (ages : List Aged) (k g : ℕ) (d : Aged) (numbers : List ℕ) → k < length ages → g < (get_or ages k d).sequences.least → Walked ages k g numbers
    → Walked ages (k + 1) (max g (get_or ages k d).sequences.greatest) numbers
walk_past ages k g d numbers inside above w = record {
  below = below_more ages k g d inside w.below;
  named = λ i j e lt past le. elim (cases_lt i k) [
    | inl before ↦ w.named i j e lt before le
    | inr last ↦ (let same = ap (λ (a : Aged). a.sequences.least) (here ages i k e d inside last past) in
        let old = w.below j e (omega arith) in
        absurd (omega arith))
  ];
  ahead = λ n j e h le lt. w.ahead n j e h (omega arith) lt;
  ascending = w.ascending;
}

-- one that may reach one, and is named
pub walk_named : (ages : List Aged) (k g : ℕ) (d : Aged) (numbers more : List ℕ) → k < length ages → IsNonDecreasingBy (λ (a : Aged). a.number) ages
    → more ≡ numbers ++ (get_or ages k d).number ∷ [] → Walked ages k g numbers → Walked ages (k + 1) (max g (get_or ages k d).sequences.greatest) more
walk_named ages k g d numbers more inside ordered is w = record {
  below = below_more ages k g d inside w.below;
  named = λ i j e lt past le. elim (cases_lt i k) [
    | inl before ↦ there (get_or ages i e).number (has_left numbers ((get_or ages k d).number ∷ []) (get_or ages i e).number (w.named i j e lt before le))
    | inr last ↦ there (get_or ages i e).number (has_right numbers ((get_or ages k d).number ∷ []) (get_or ages i e).number (inl (sym (ap (λ (a : Aged). a.number) (here ages i k e d inside last past)))))
  ];
  ahead = λ n j e h le lt. elim (has_cases numbers ((get_or ages k d).number ∷ []) n (subst (λ (ns : List ℕ). Has ns n) is h)) [
    | inl before ↦ w.ahead n j e before (omega arith) lt
    | inr last ↦ elim last [
      | inl same ↦ (let up : (get_or ages k e).number ≤ (get_or ages j e).number = ordered k j e (omega arith) lt in
          let number : (get_or ages k e).number ≡ (get_or ages k d).number = ap (λ (a : Aged). a.number) (get_or_default ages k e d inside) in
          omega arith)
      | inr none ↦ absurd none
    ]
  ];
  ascending = subst IsNonDecreasing (sym is) (IsNonDecreasingBy-push (λ (n : ℕ). n) numbers (get_or ages k d).number w.ascending (λ e some. not_above (length numbers - 1) e (omega arith)));
}
  where
    there : (n : ℕ) → Has (numbers ++ (get_or ages k d).number ∷ []) n → Has more n
    there n h = subst (λ (ns : List ℕ). Has ns n) (sym is) h

    not_above : (i e : ℕ) → i < length numbers → get_or numbers i e ≤ (get_or ages k d).number
    not_above i e lt = w.ahead (get_or numbers i e) k d (has_at numbers i (get_or numbers i e) lt (get_or_default numbers i e (get_or numbers i e) lt)) (omega arith) inside

pub walk_end : (ages : List Aged) (k g : ℕ) (numbers : List ℕ) → length ages ≤ k → IsNonDecreasingBy (λ (a : Aged). a.number) ages → Walked ages k g numbers → NamesReaching ages numbers
walk_end ages k g numbers past ordered w a b ha hb lt le =
    let i = contains_from ages a ha in
    let j = contains_from ages b hb in
    let first : get_or ages i.0 a ≡ a = i.2 in
    let second : get_or ages j.0 a ≡ b = get_or_default ages j.0 a b j.1 ∙ j.2 in
    let one = ap (λ (x : Aged). x.number) first in
    let two = ap (λ (x : Aged). x.number) second in
    let least = ap (λ (x : Aged). x.sequences.least) first in
    let greatest = ap (λ (x : Aged). x.sequences.greatest) second in
    let before : j.0 < i.0 = elim (cases_lt j.0 i.0) [
      | inl earlier ↦ earlier
      | inr later ↦ (let up : (get_or ages i.0 a).number ≤ (get_or ages j.0 a).number = ordered i.0 j.0 a later j.1 in absurd (omega arith))
    ] in
    let in_range = i.1 in
    subst (Has numbers) one (w.named i.0 j.0 a before (omega arith) (omega arith))

-- ---- the tables of a level

-- of a level from 1 on no two files differ in depth
pub none_named : (level : ℕ) (ts : List Table) → 0 < level → NamesUnsettled level ts []
none_named level ts up F G hF hG u =
    let f = level_of_files level ts F hF in
    let g = level_of_files level ts G hG in
    elim u.0 [
      | inl lt ↦ absurd (omega arith)
      | inr r ↦ (let least = r.0 in absurd (omega arith))
    ]

pub reaching_named : (level : ℕ) (ts : List Table) (ages : List Aged) (numbers : List ℕ) → AreAged (files_of level ts) ages → NamesReaching ages numbers → NamesUnsettled level ts numbers
reaching_named level ts ages numbers aged names F G hF hG u =
    let f = level_of_files level ts F hF in
    let g = level_of_files level ts G hG in
    let a = aged F hF in
    let b = aged G hG in
    let le = reach_sequences F G a.0.sequences b.0.sequences a.2.sequences b.2.sequences u.2 in
    elim u.0 [
      | inl lt ↦ absurd (omega arith)
      | inr r ↦ (let lt : G.number < F.number = r.2 in
          let one = a.2.number in
          let two = b.2.number in
          subst (Has numbers) one (names a.0 b.0 a.1 b.1 (omega arith) le))
    ]

-- with what lies before the first level it is compared with, a table is settled
pub settled_before : (level first : ℕ) (levels : List (List Table)) (t : Table) (numbers : List ℕ) → first ≤ level + 1 → (Has numbers t.number → first ≡ level)
    → NamesUnsettled level (level_in levels level) numbers → Has (files_of level (level_in levels level)) (file_of level t)
    → (G : File) → Between level first levels G → IsUnsettled (file_of level t) G → ⊥
settled_before level first levels t numbers near own names there G (n, low, high, h) u =
    let same : n ≡ level = omega arith in
    let beside : Has (files_of level (level_in levels level)) G = subst (λ (m : ℕ). Has (files_of m (level_in levels m)) G) same h in
    let is = own (names (file_of level t) G there beside u) in
    absurd (omega arith)
