-- The sources of a merge of all levels: each table of level 0 by itself, and the tables of a deeper
-- level one after another (LevelDB's `doc/impl.md`, "Levels": the files of a level from 1 on lie in
-- order).
use Rattle.std.specs.Prelude.{◌≡◌, ◌⊎◌, ℕ, ◌<◌, ◌≤◌, List, [], ◌∷◌, ◌++◌, map}
use Rattle.std.specs.List.{flat_map}
use Rattle.lsm_codec.specs.Lists.{Has}
use Rattle.lsm_codec.specs.Keys.{UserKey, UserLe}
use Rattle.lsm_codec.specs.Entries.{Entry}
use Rattle.lsm_table.specs.Registry.{Table}
use Rattle.lsm_table.specs.HeldTable.{entries_in}
use Rattle.lsm_model.specs.Files.{File}
use Rattle.lsm_model.specs.Merging.{Placed, AreOrdered, IsSorted, placed_at}
use Rattle.lsm_query.specs.Depths.{depth_of}
use Rattle.lsm_version.specs.Reads.{IsSoundLevel}
use Rattle.lsm_version.specs.Versions.{IsWhole, files_of, level_in}

-- Each record stands for its table, and the tables of a level from 1 on lie in order.
pub record AreMergeable (levels : List (List Table)) : Type 0 where
  pub whole : (n : ℕ) (t : Table) → Has (level_in levels n) t → IsWhole t
  pub deeper : (n : ℕ) → 1 ≤ n → IsSoundLevel n (level_in levels n)

-- These lists in order have just the entries of the files of which `P` tells, each at its file's
-- depth, where these are the tables of level 0.
pub record AreRunsOf (shallow : List Table) (P : File → Type 0) (runs : List (List Placed))
    : Type 0 where
  pub from : (l : List Placed) (p : Placed) → Has runs l → Has l p
      → (F : File) × P F × Has F.entries p.1 × (p.0 ≡ depth_of shallow F)
  pub all : (F : File) (e : Entry) → P F → Has F.entries e
      → (l : List Placed) × Has runs l × Has l (depth_of shallow F, e)
  pub ordered : AreOrdered runs

-- the same, of the entries alone whose user key is at or past this one
pub record AreRunsFrom (user : UserKey) (shallow : List Table) (P : File
    → Type 0) (runs : List (List Placed)) : Type 0 where
  pub from : (l : List Placed) (p : Placed) → Has runs l → Has l p
      → (F : File) × P F × Has F.entries p.1 × UserLe user p.1.user × (p.0 ≡ depth_of shallow F)
  pub all : (F : File) (e : Entry) → P F → Has F.entries e → UserLe user e.user
      → (l : List Placed) × Has runs l × Has l (depth_of shallow F, e)
  pub ordered : AreOrdered runs

-- ---- files that are named

-- one of these tables has the number
abbrev pub IsNumberOf : List Table → ℕ → Type 0
IsNumberOf ts n = (t : Table) × Has ts t × (t.number ≡ n)

-- a table of some level has it
abbrev pub IsNumberIn : List (List Table) → ℕ → Type 0
IsNumberIn levels n = (level : ℕ) × IsNumberOf (level_in levels level) n

-- each of these files, which stand with the depths of their runs, has a number of which `P` tells
abbrev pub AreNamed : (ℕ → Type 0) → List (ℕ × ℕ) → Type 0
AreNamed P files = (f : ℕ × ℕ) → Has files f → P f.1

-- Each of the new files was there before, or has a number of which `P` tells.
abbrev pub AddsNamed : (ℕ → Type 0) → List (ℕ × ℕ) → List (ℕ × ℕ) → Type 0
AddsNamed P old new = (f : ℕ × ℕ) → Has new f → Has old f ⊎ P f.1

-- ---- how the code makes them

-- The tables lie in a row, as those of a level from 1 on.
abbrev pub AreInRow : List Table → Type 0
AreInRow ts = (n : ℕ) × (1 ≤ n) × IsSoundLevel n ts

-- a source of the entries at a depth; none where there are no entries
abbrev pub run_of : ℕ → List Entry → List (List Placed)
run_of depth [] = []
run_of depth (e ∷ es) = placed_at depth (e ∷ es) ∷ []

-- One source more at this depth: in order the entries of the tables whose user key is at or past
-- this one. It is none where there are no such entries.
pub record AddsRun (user : UserKey) (depth : ℕ) (ts : List Table) (old new : List (List Placed))
    : Type 0 where
  pub entries : List Entry
  pub from : (e : Entry) → Has entries e
      → (t : Table) × Has ts t × Has (entries_in t.image) e × UserLe user e.user
  pub all : (t : Table) (e : Entry) → Has ts t → Has (entries_in t.image) e → UserLe user e.user
      → Has entries e
  pub sorted : IsSorted entries
  pub grown : new ≡ old ++ run_of depth entries

-- a file of a level below k
abbrev pub IsAbove : ℕ → List (List Table) → File → Type 0
IsAbove k levels X = (n : ℕ) × (n < k) × Has (files_of n (level_in levels n)) X

-- the entries of tables one after another
abbrev pub entries_after : List Table → List Entry
entries_after ts = flat_map entries_in (map (λ t. t.image) ts)
