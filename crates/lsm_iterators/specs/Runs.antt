-- What is left of the sources of a merge, and which files they have still to read.
use Rattle.std.specs.Prelude.{◌≡◌, ◌≢◌, ◌==◌, ℕ, Bool, false, cond, List, [], ◌∷◌, ◌++◌, map}
use Rattle.std.specs.Prelude.{Option, Some, None}
use Rattle.std.specs.List.{flat_map}
use Rattle.lsm_codec.specs.Lists.{Has}
use Rattle.lsm_codec.specs.Entries.{Entry}
use Rattle.lsm_table.specs.Registry.{Table, image_of}
use Rattle.lsm_table.specs.Table.{IsTable}
use Rattle.lsm_table.specs.HeldTable.{entries_in}
use Rattle.lsm_model.specs.Merging.{Placed, placed_at}
use Rattle.lsm_iterators.specs.Heads.{first_of, key_in, source_in}

-- what is left: the entries with the depths of their sources, and the files that are not yet read
-- to their ends, each number with the depth of its source; and the same entries with the numbers of
-- the files in which they stand, where `placed` has depths
pub record Left : Type 0 where
  pub placed : List Placed
  pub files : List (ℕ × ℕ)
  pub numbered : List Placed

-- a place in the table of a file: the file's number, and the entries that are left
pub record InFile : Type 0 where
  pub number : ℕ
  pub left : List Entry

-- The image is a table that has an entry.
pub record HasEntries (image : List ℕ) : Type 0 where
  pub table : IsTable image (entries_in image)
  pub some : entries_in image ≢ []

-- the entries of the tables of images, one after another
abbrev pub entries_of_all : List (List ℕ) → List Entry
entries_of_all images = flat_map entries_in images

-- the number of each file with a depth
abbrev pub files_at : ℕ → List ℕ → List (ℕ × ℕ)
files_at depth [] = []
files_at depth (n ∷ ns) = (depth, n) ∷ files_at depth ns

-- the entries of the tables of images, one after another, each with its file's number
abbrev pub numbered_all : List ℕ → List (List ℕ) → List Placed
numbered_all ns [] = []
numbered_all [] (image ∷ images) = []
numbered_all (n ∷ ns) (image ∷ images) = placed_at n (entries_in image) ++ numbered_all ns images

-- what is left where a run stands in a table, and images are to come after it
abbrev pub run_left : ℕ → ℕ → List Entry → List ℕ → List (List ℕ) → Left
run_left depth number here numbers images = record {
  placed = placed_at depth (here ++ entries_of_all images);
  files = files_at depth (number ∷ numbers);
  numbered = placed_at number here ++ numbered_all numbers images;
}

-- Where no entry is left of a table, no table comes after it.
abbrev pub IsLastAtEnd : List Entry → List (List ℕ) → Type 0
IsLastAtEnd [] images = images ≡ []
IsLastAtEnd (e ∷ es) images = Unit {0}

-- These are the entries of the first table.
abbrev pub IsFirstOf : List Entry → List (List ℕ) → Type 0
IsFirstOf es [] = ⊥
IsFirstOf es (image ∷ images) = es ≡ entries_in image

-- It is the first of these.
abbrev pub IsFirst : {X : Type 0} → X → List X → Type 0
IsFirst x [] = ⊥
IsFirst x (y ∷ ys) = x ≡ y

-- No file is new.
abbrev pub ReadsNoOther : Left → Left → Type 0
ReadsNoOther old new = (f : ℕ × ℕ) → Has new.files f → Has old.files f

-- By depths and by numbers the first entry has one key.
abbrev pub AreAlike : Left → Type 0
AreAlike left = key_in (first_of left.placed) ≡ key_in (first_of left.numbered)

-- The number is that of a file of the source that has the first entry.
abbrev pub IsOfFirst : Left → ℕ → Type 0
IsOfFirst left number = Has left.files (source_in (first_of left.placed), number)

-- The number is that of a file which is not yet read to its end.
abbrev pub IsOfFiles : Left → ℕ → Type 0
IsOfFiles left number = (depth : ℕ) × Has left.files (depth, number)

-- ---- the tables that are to come

abbrev pub is_number : Option ℕ → ℕ → Bool
is_number None n = false
is_number (Some own) n = own == n

-- tables without those that follow one of their number
abbrev pub once : Option ℕ → List Table → List Table
once last [] = []
once last (t ∷ ts) = cond (is_number last t.number) (once last ts) (t ∷ once (Some t.number) ts)

-- their numbers and their images
pub record Awaited : Type 0 where
  pub numbers : List ℕ
  pub images : List (List ℕ)

-- those of a row, each table once; where there is none, these
abbrev pub awaited : List ℕ → List (List ℕ) → Option (List Table) → Awaited
awaited numbers images None = record { numbers = numbers; images = images }
awaited numbers images (Some row) = record {
  numbers = map (λ t. t.number) (once None row);
  images = map image_of (once None row);
}
