-- The merge of all sources is the merge that the theorems on installs speak of, once it is seen to
-- ascend.
use Rattle.std.proofs.Common.{◌≡◌, ℕ, true, List, [], ◌∷◌, refl, ap, subst, inl, inr}
use Rattle.std.specs.List.{flat_map}
use Rattle.lsm_codec.specs.Entries.{Entry}
use Rattle.lsm_codec.specs.Lists.{Has}
use Rattle.lsm_model.specs.Merging.{Placed, IsSorted, IsOrdered, AreOrdered, goes_first, merge_all, entries_of, placed_at}
use Rattle.lsm_model.specs.Streams.{IsAscending, IsMerge}
use Rattle.lsm_model.proofs.Merging.{merged_from, merged_has, merged_ordered}
use Rattle.lsm_model.proofs.Order.{before_first}

-- an entry of some depth is an entry
pub placed_entry : (ps : List Placed) (p : Placed) → Has ps p → Has (entries_of ps) p.1
placed_entry [] p h = absurd h
placed_entry (q ∷ ps) p (inl e) = inl (ap (λ (w : Placed). w.1) e)
placed_entry (q ∷ ps) p (inr h) = inr (placed_entry ps p h)

pub entry_placed : (ps : List Placed) (e : Entry) → Has (entries_of ps) e → (p : Placed) × Has ps p × (p.1 ≡ e)
entry_placed [] e h = absurd h
entry_placed (q ∷ ps) e (inl s) = (q, inl refl, s)
entry_placed (q ∷ ps) e (inr h) = (let r = entry_placed ps e h in (r.0, inr r.1, r.2))

pub merge_is : (ls : List (List Placed)) → IsAscending (entries_of (merge_all ls)) → IsMerge (entries_of (merge_all ls)) (entries_of (flat_map (λ l. l) ls))
merge_is ls a = record {
  ascending = a;
  from = λ e h. (let r = entry_placed (merge_all ls) e h in subst (Has (entries_of (flat_map (λ l. l) ls))) r.2 (placed_entry (flat_map (λ l. l) ls) r.0 (merged_from ls r.0 r.1)));
  to = λ e h. (let r = entry_placed (flat_map (λ l. l) ls) e h in subst (Has (entries_of (merge_all ls))) r.2 (placed_entry (merge_all ls) r.0 (merged_has ls r.0 r.1)));
}

-- order with depths, and without
pub ordered_sorted : (ps : List Placed) → IsOrdered ps → IsSorted (entries_of ps)
ordered_sorted [] o = tt
ordered_sorted (p ∷ ps) o = (λ y h. (let r = entry_placed ps y h in subst (λ (w : Entry). goes_first p.1 w ≡ true) r.2 (o.0 r.0 r.1)), ordered_sorted ps o.1)

placed_from : (depth : ℕ) (es : List Entry) (q : Placed) → Has (placed_at depth es) q → Has es q.1
placed_from depth [] q h = absurd h
placed_from depth (e ∷ es) q (inl s) = inl (ap (λ (w : Placed). w.1) s)
placed_from depth (e ∷ es) q (inr h) = inr (placed_from depth es q h)

pub sorted_ordered : (depth : ℕ) (es : List Entry) → IsSorted es → IsOrdered (placed_at depth es)
sorted_ordered depth [] s = tt
sorted_ordered depth (e ∷ es) s = (λ q h. s.0 q.1 (placed_from depth es q h), sorted_ordered depth es s.1)

pub merged_sorted : (ls : List (List Placed)) → AreOrdered ls → IsSorted (entries_of (merge_all ls))
merged_sorted ls a = ordered_sorted (merge_all ls) (merged_ordered ls a)

-- each list that ascends is sorted
pub ascending_sorted : (es : List Entry) → IsAscending es → IsSorted es
ascending_sorted [] a = tt
ascending_sorted (x ∷ es) a = (λ y h. before_first x y (a.0 y h), ascending_sorted es a.1)
