-- The ranges of a level's tables.
use Rattle.std.proofs.Common.{◌≡◌, ℕ, zero, suc, ◌+◌, ◌<◌, ◌≤◌, List, [], ◌∷◌, ◌++◌, length, get_or}
use Rattle.std.proofs.Common.{take, refl, sym, ◌∙◌, ap, subst, inl, inr, arith}
use Rattle.std.proofs.lemmas.List.{take_more, take_all}
use Rattle.std.proofs.lemmas.Bool.{cases_eq}
use Rattle.std.specs.List.Sorted.{IsSortedBy}
use Rattle.lsm_codec.specs.Lists.{Has}
use Rattle.lsm_codec.specs.Keys.{InternalKey, IsKey}
use Rattle.lsm_codec.proofs.CallerLemmas.{IsKey-unique}
use Rattle.lsm_table.specs.Registry.{Table}
use Rattle.lsm_model.specs.Ranges.{Range, KeyLe, EachPair, IsLevel, IsLaidOut}
use Rattle.lsm_version.specs.Versions.{stands_before, level_in}
use Rattle.lsm_admission.specs.FoundTables.{IsBounds, AreBounded, AreLevelsBounded}
use Rattle.lsm_verify.specs.LevelLayouts.{AreRangesOf, LieAs, MeetNowhere}
use Rattle.lsm_model.specs.declared.key_range.Layout.{Layout}
use Rattle.lsm_model.specs.declared.key_range.Layout.TheVariants.{Overlap, Shared, Apart}
use Rattle.lsm_version.proofs.CallerLemmas.{EachAfter, each_after, begins_later}

-- ---- one more table

pub ranges_push : (ts : List Table) (rs : List Range) (t : Table) (r : Range) → AreRangesOf ts rs
    → IsKey t.smallest r.smallest → IsKey t.largest r.largest → AreRangesOf (ts ++ t ∷ [])
    (rs ++ r ∷ [])
ranges_push [] [] t r a s l = (s, l, tt)
ranges_push [] (q ∷ rs) t r a s l = absurd a
ranges_push (u ∷ ts) [] t r a s l = absurd a
ranges_push (u ∷ ts) (q ∷ rs) t r a s l = (a.0, a.1, ranges_push ts rs t r a.2 s l)

pub ranges_more : (ts : List Table) (i : ℕ) (t : Table) (rs : List Range) (r : Range)
    → i < length ts → t ≡ get_or ts i t → AreRangesOf (take i ts) rs → IsKey t.smallest r.smallest
    → IsKey t.largest r.largest
    → AreRangesOf (take (i + 1) ts) (rs ++ r ∷ [])
ranges_more ts i t rs r lt at a s l =
    subst (λ (us : List Table). AreRangesOf us (rs ++ r ∷ []))
    (ap (λ (u : Table). take i ts ++ u ∷ []) at ∙ sym (take_more ts i t lt))
    (ranges_push (take i ts) rs t r a s l)

-- ---- the ranges are those of a level

range_from : (ts : List Table) (rs : List Range) → AreRangesOf ts rs → (r : Range) → Has rs r
    → (t : Table) × Has ts t × IsKey t.smallest r.smallest × IsKey t.largest r.largest
range_from [] [] a r h = absurd h
range_from [] (q ∷ rs) a r h = absurd a
range_from (t ∷ ts) [] a r h = absurd a
range_from (t ∷ ts) (q ∷ rs) a r (inl e) = (
  t,
  inl refl,
  subst (λ (x : Range). IsKey t.smallest x.smallest) e a.0,
  subst
      (λ (x : Range). IsKey t.largest x.largest) e a.1,
)
range_from (t ∷ ts) (q ∷ rs) a r (inr h) = (let s = range_from ts rs a.2 r h
    in (s.0, inr s.1, s.2, s.3))

own_le : (t : Table) (r : Range) → IsBounds t.smallest t.largest → IsKey t.smallest r.smallest
    → IsKey t.largest r.largest → KeyLe r.smallest r.largest
own_le t r w s l =
    subst (λ (k : InternalKey). KeyLe k r.largest) (IsKey-unique t.smallest w.range.smallest
    r.smallest w.first s)
    (subst (λ (k : InternalKey). KeyLe w.range.smallest k) (IsKey-unique t.largest w.range.largest
    r.largest w.end l) w.ascends)

in_order : (ts : List Table) (rs : List Range) → EachAfter ts → AreRangesOf ts rs
    → EachPair (λ a b. KeyLe a.smallest b.smallest) rs
in_order [] [] e a = tt
in_order [] (q ∷ rs) e a = absurd a
in_order (t ∷ ts) [] e a = absurd a
in_order (t ∷ ts) (q ∷ rs) e a = (
  λ b h. (let s = range_from ts rs a.2 b h in begins_later t s.0 q.smallest b.smallest a.0 s.2
      (e.0 s.0 s.1)),
  in_order ts rs e.1 a.2,
)

pub is_level : (ts : List Table) (rs : List Range) → AreBounded ts → IsSortedBy stands_before ts
    → AreRangesOf ts rs → IsLevel rs
is_level ts rs w o a = record {
  each = λ r h. (let s = range_from ts rs a r h in own_le s.0 r (w s.0 s.1) s.2 s.3);
  order = in_order ts rs (each_after ts o) a;
}

pub lies_as : (ts : List Table) (i : ℕ) (rs : List Range) (layout : Layout) → length ts ≤ i
    → AreBounded ts → IsSortedBy stands_before ts → AreRangesOf (take i ts) rs
    → (IsLevel rs → IsLaidOut rs layout) → LieAs ts layout
lies_as ts i rs layout past w o a judged =
    let whole : AreRangesOf ts rs = subst (λ (us : List Table). AreRangesOf us rs)
    (take_all i ts past) a in
    (rs, whole, judged (is_level ts rs w o whole))

-- ---- level by level

pub bounded_in : (levels : List (List Table)) (n : ℕ) → AreLevelsBounded levels
    → AreBounded (level_in levels n)
bounded_in [] n a = λ t h. absurd h
bounded_in (ts ∷ levels) zero a = a.0
bounded_in (ts ∷ levels) (suc n) a = bounded_in levels n a.1

meets_nowhere : (ts : List Table) (layout : Layout) → LieAs ts layout → (layout ≡ Overlap → ⊥)
    → MeetNowhere ts
meets_nowhere ts Overlap l ne = absurd (ne refl)
meets_nowhere ts Shared l ne = inl l
meets_nowhere ts Apart l ne = inr l

-- what holds below this level holds below the next one
below_next : (P : ℕ → Type 0) (end : ℕ) → ((n : ℕ) → 1 ≤ n → n < end → P n) → P end → (n : ℕ)
    → 1 ≤ n → n < end + 1 → P n
below_next P end below here n low lt = elim (cases_eq n end) [
  | inl e ↦ subst P (sym e) here
  | inr
      ne ↦ below n low (omega arith)
]

pub layouts_more : (levels : List (List Table)) (end : ℕ) (layout : Layout)
    → ((n : ℕ) → 1 ≤ n → n < end → MeetNowhere (level_in levels n)) → LieAs (level_in levels end)
    layout → (layout ≡ Overlap → ⊥)
    → (n : ℕ) → 1 ≤ n → n < end + 1 → MeetNowhere (level_in levels n)
layouts_more levels end layout before here ne = below_next (λ n. MeetNowhere (level_in levels n))
    end before (meets_nowhere (level_in levels end) layout here ne)
