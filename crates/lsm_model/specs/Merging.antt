-- The merge of lists in order (LevelDB's `doc/impl.md`, "Compactions": a compaction merges the
-- contents of its files).
use Rattle.std.specs.Prelude.{ℕ, ◌≡◌, Bool, true, false, ◌&&◌, cond, List, [], ◌∷◌}
use Rattle.std.specs.Ordering.{is_le}
use Rattle.lsm_codec.specs.Lists.{Has}
use Rattle.lsm_codec.specs.Entries.{Entry, entry_cmp}

-- x stands before y, or has its user key, sequence and kind: x may be handed out first
unfoldable pub goes_first : Entry → Entry → Bool
goes_first x y = is_le (entry_cmp x y)

-- each entry may be handed out before the ones after it
abbrev pub IsSorted : List Entry → Type 0
IsSorted [] = Unit {0}
IsSorted (x ∷ xs) = ((y : Entry) → Has xs y → goes_first x y ≡ true) × IsSorted xs

-- an entry with the depth of the source that it comes from
abbrev pub Placed : Type 0
Placed = ℕ × Entry

-- entries of one source
abbrev pub placed_at : ℕ → List Entry → List Placed
placed_at depth [] = []
placed_at depth (e ∷ es) = (depth, e) ∷ placed_at depth es

abbrev pub entries_of : List Placed → List Entry
entries_of [] = []
entries_of (p ∷ ps) = p.1 ∷ entries_of ps

-- each entry may be handed out before the ones after it
abbrev pub IsOrdered : List Placed → Type 0
IsOrdered [] = Unit {0}
IsOrdered (p ∷ ps) = ((q : Placed) → Has ps q → goes_first p.1 q.1 ≡ true) × IsOrdered ps

abbrev pub AreOrdered : List (List Placed) → Type 0
AreOrdered [] = Unit {0}
AreOrdered (l ∷ ls) = IsOrdered l × AreOrdered ls

-- x, and what `rest` makes of the part of the list at which x goes first
abbrev pub onto : Placed → (List Placed → List Placed) → List Placed → List Placed
onto x rest [] = x ∷ rest []
onto x rest (y ∷ ys) = cond (goes_first x.1 y.1) (x ∷ rest (y ∷ ys)) (y ∷ onto x rest ys)

-- two lists as one, the first list's entry first where both may go
abbrev pub merge : List Placed → List Placed → List Placed
merge [] ys = ys
merge (x ∷ xs) ys = onto x (merge xs) ys

-- all lists as one, an earlier list's entry first where both may go
abbrev pub merge_all : List (List Placed) → List Placed
merge_all [] = []
merge_all (l ∷ ls) = merge l (merge_all ls)

-- both have one user key, sequence and kind
abbrev pub is_alike : Entry → Placed → Bool
is_alike e p = goes_first e p.1 && goes_first p.1 e

-- ---- how the code finds the next entry

-- the first list has an entry, and it may be handed out before the second list's first
abbrev pub leads : List Placed → List Placed → Bool
leads [] m = false
leads (x ∷ xs) [] = true
leads (x ∷ xs) (y ∷ ys) = goes_first x.1 y.1
