-- What a check gives of a shape, and why it refuses one (this project's rule).
use Rattle.std.specs.Prelude.{◌≡◌, ◌⊎◌, ℕ, ◌≤◌, List}
use Rattle.lsm_codec.specs.Lists.{Has}
use Rattle.lsm_codec.specs.Keys.{UserKey, UserLe}
use Rattle.lsm_codec.specs.Entries.{Entry}
use Rattle.lsm_shelf.specs.declared.shelf_fault.ShelfFault.{ShelfFault}
use Rattle.lsm_table.specs.Registry.{Table}
use Rattle.lsm_table.specs.ReadFault.{IsMemoryOrShelf}
use Rattle.lsm_manifest.specs.declared.shape.Shape.{Shape}
use Rattle.lsm_verify.specs.declared.check_fault.CheckFault.{CheckFault}
use Rattle.lsm_verify.specs.declared.check_fault.CheckFault.TheVariants.{Read, DoubleFile, Overlap}
use Rattle.lsm_verify.specs.declared.check_fault.CheckFault.TheVariants.{WrongRange, AgeOrder}
use Rattle.lsm_model.specs.Files.{File, Shallower}
use Rattle.lsm_version.specs.FileNumbers.{AreDistinct, IsLeastTwice, numbers_of}
use Rattle.lsm_verify.specs.FileRefusal.{IsFilesRefusal, NamesNone}
use Rattle.lsm_query.specs.Unread.{NamesOne}
use Rattle.lsm_verify.specs.LevelLayouts.{IsLayoutRefusal, LieInOrder}
use Rattle.lsm_verify.specs.Loading.{AreLevelsOf, AreLevelsStored, all_files, placed_levels}
use Rattle.lsm_verify.specs.Settled.{IsOneUnsettled, IsSettled}
use Rattle.lsm_version.specs.Versions.{Levels, AreInOrder, files_from}

-- The version has a table for each file of the shape, the shape's pointers and its last sequence.
-- The tables of a level were put into place one after another, in the order of the shape's files.
pub record IsOfShape (shape : Shape) (v : Levels) : Type 0 where
  pub read : List (List Table)
  pub files : AreLevelsOf shape.last shape.levels read
  pub placed : v.tables ≡ placed_levels read
  pub pointers : v.pointers ≡ shape.pointers
  pub last : v.last ≡ shape.last

-- No two files of the shape have one number; these tables were read from the shelf for the files,
-- and each is its file's.
pub record AreTablesOf (Stored : ℕ → List ℕ → Type 0) (shape : Shape) (tables : List (List Table))
    : Type 0 where
  pub numbers : AreDistinct (numbers_of shape.levels)
  pub read : List (List Table)
  pub files : AreLevelsOf shape.last shape.levels read
  pub stored : AreLevelsStored Stored read
  pub placed : tables ≡ placed_levels read
  pub order : AreInOrder tables

-- of the user key an entry has no lesser sequence than one that lies shallower
abbrev pub IsAgainst : List File → UserKey → Type 0
IsAgainst v k = (F : File) × (G : File) × (x : Entry) × (y : Entry) × Has v F × Has v G
    × Shallower F G × Has F.entries x × Has G.entries y
    × (x.user ≡ k) × (y.user ≡ k) × (x.seq ≤ y.seq)

-- the least user key of which this is so
pub record IsLeastAgainst (v : List File) (k : UserKey) : Type 0 where
  pub here : IsAgainst v k
  pub least : (other : UserKey) → IsAgainst v other → UserLe k other

-- the refusals of the numbers of files
abbrev pub IsNumberRefusal : List ℕ → CheckFault → Type 0
IsNumberRefusal numbers (Read file fault) = NamesNone file fault
IsNumberRefusal numbers (DoubleFile number) = IsLeastTwice numbers number
IsNumberRefusal numbers (Overlap level) = ⊥
IsNumberRefusal numbers (WrongRange number) = ⊥
IsNumberRefusal numbers (AgeOrder user) = ⊥

-- Of files of which ranges and sequences alone don't settle the age order, tables are read a second
-- time. Where that is refused, the file of such a table is named, or memory ran out and none is;
-- over an honest shelf it is refused by the shelf or for want of memory alone, or for the least
-- user key against age.
abbrev pub IsAgeRefusal : Type 0 → List File → CheckFault → Type 0
IsAgeRefusal Honest v (Read file fault) =
    NamesOne (IsOneUnsettled v) file fault × (Honest → IsMemoryOrShelf fault)
IsAgeRefusal Honest v (AgeOrder user) = (IsSettled v → ⊥) × (Honest → IsLeastAgainst v user)
IsAgeRefusal Honest v (DoubleFile number) = ⊥
IsAgeRefusal Honest v (Overlap level) = ⊥
IsAgeRefusal Honest v (WrongRange number) = ⊥

-- The tables of all files were read, no level from 1 on is refused, and the age order is.
abbrev pub IsAgainRefusal : (ℕ → List ℕ → Type 0) → Type 0 → Shape → CheckFault → Type 0
IsAgainRefusal Stored Honest shape fault =
    (tables : List (List Table)) × AreTablesOf Stored shape tables × LieInOrder tables
    × IsAgeRefusal Honest (files_from 0 tables) fault

-- `Stored` says which images the shelf holds under which numbers, `Refused` which loads it refused
-- with which faults, `Honest` that its later reads give the stored images. Memory ran out beside
-- the files, and none is named; or two files have one number; or a file is refused; or the tables
-- of all files were read, and a level from 1 on is refused; or no level is, ranges and sequences
-- alone don't settle the age order, and a second look at the tables is refused, or finds a key
-- against age.
abbrev pub IsRefusal : (ℕ → List ℕ → Type 0) → (ℕ → ShelfFault → Type 0) → Type 0 → Shape
    → CheckFault → Type 0
IsRefusal Stored Refused Honest shape (DoubleFile number) =
    IsLeastTwice (numbers_of shape.levels) number
IsRefusal Stored Refused Honest shape (Read file fault) =
    NamesNone file fault ⊎ ((AreDistinct (numbers_of shape.levels)
    × IsFilesRefusal Stored Refused shape.last (all_files shape.levels) (Read file fault))
    ⊎ IsAgainRefusal Stored Honest shape (Read file fault))
IsRefusal Stored Refused Honest shape (WrongRange number) =
    AreDistinct (numbers_of shape.levels)
    × IsFilesRefusal Stored Refused shape.last (all_files shape.levels) (WrongRange number)
IsRefusal Stored Refused Honest shape (Overlap level) =
    (tables : List (List Table)) × AreTablesOf Stored shape tables
    × IsLayoutRefusal tables (Overlap level)
IsRefusal Stored Refused Honest shape (AgeOrder user) =
    IsAgainRefusal Stored Honest shape (AgeOrder user)
