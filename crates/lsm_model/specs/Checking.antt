-- What is judged of files one by one, level by level, and along all their entries, before they are
-- taken as a version.
use Rattle.std.specs.Prelude.{◌≡◌, ℕ, zero, suc, ◌<◌, ◌≤◌, List, [], ◌∷◌, ◌++◌}
use Rattle.lsm_codec.specs.Lists.{Has}
use Rattle.lsm_codec.specs.Entries.{Entry, internal_key}
use Rattle.lsm_model.specs.Files.{File, Shallower}
use Rattle.lsm_model.specs.Merging.{Placed}
use Rattle.lsm_model.specs.Ages.{IsAgeOrder}
use Rattle.lsm_model.specs.Ranges.{EachPair, MeetInKeys, Range}
use Rattle.lsm_model.specs.Streams.{IsAscending}

-- a table under its number, with its smallest and largest internal key
pub record Listed : Type 0 where
  pub number : ℕ
  pub range : Range
  pub entries : List Entry

-- the range is that of the entries, which ascend
pub record IsRangeOf (entries : List Entry) (range : Range) : Type 0 where
  pub ascending : IsAscending entries
  pub first : (e : Entry) × (rest : List Entry) × (entries ≡ e ∷ rest)
      × (internal_key e ≡ range.smallest)
  pub last : (front : List Entry) × (e : Entry) × (entries ≡ front ++ e ∷ [])
      × (internal_key e ≡ range.largest)

abbrev pub ranges_of : List Listed → List Range
ranges_of [] = []
ranges_of (t ∷ ts) = t.range ∷ ranges_of ts

-- a listed table as a file of a level
abbrev pub file_at : ℕ → Listed → File
file_at level t = record {
  level = level;
  number = t.number;
  low = t.range.smallest.user;
  high = t.range.largest.user;
  entries = t.entries;
}

abbrev pub files_at : ℕ → List Listed → List File
files_at level [] = []
files_at level (t ∷ ts) = file_at level t ∷ files_at level ts

-- what each of the levels from this one on makes of what stands in it, one after another
abbrev pub all_from : {A B : Type 0} → (ℕ → List A → List B) → ℕ → List (List A) → List B
all_from made level [] = []
all_from made level (xs ∷ levels) = made level xs ++ all_from made (suc level) levels

-- the files of the levels from this one on
abbrev pub files_from : ℕ → List (List Listed) → List File
files_from level levels = all_from files_at level levels

-- what stands in a level
abbrev pub level_in : {A : Type 0} → List (List A) → ℕ → List A
level_in [] n = []
level_in (xs ∷ levels) zero = xs
level_in (xs ∷ levels) (suc n) = level_in levels n

-- What is judged of the tables of all levels: each by itself, those of a level from 1 on together,
-- of which no two ranges meet in internal keys, and all entries, which stand in `placed` with the
-- depths of their files.
pub record IsJudged (levels : List (List Listed)) (depth : File → ℕ) (placed : List Placed)
    : Type 0 where
  pub ranges : (n : ℕ) (t : Listed) → Has (level_in levels n) t → IsRangeOf t.entries t.range
  pub numbers : (F G : File) → Has (files_from 0 levels) F → Has (files_from 0 levels) G
      → F.number ≡ G.number → F ≡ G
  pub apart : (n : ℕ) → 1 ≤ n → EachPair (λ a b. MeetInKeys a b → ⊥) (ranges_of (level_in levels n))
  pub depths : (F G : File) → Has (files_from 0 levels) F → Has (files_from 0 levels) G
      → Shallower F G → depth F < depth G
  pub all : (F : File) (e : Entry) → Has (files_from 0 levels) F → Has F.entries e
      → Has placed (depth F, e)
  pub ages : IsAgeOrder placed
