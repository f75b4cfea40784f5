-- Tables that are shown plain, and what a shelf is asked for them (LevelDB's `doc/table_format.md`;
-- that a database is seen so without a write is this project's rule).
use Rattle.std.specs.Prelude.{◌≡◌, ◌≢◌, ◌⊎◌, ℕ, Bool, true, false, List, [], ◌∷◌, ◌++◌, length}
use Rattle.lsm_codec.specs.Lists.{Has}
use Rattle.lsm_codec.specs.Entries.{Entry}
use Rattle.lsm_shelf.specs.Asked.{Asked}
use Rattle.lsm_shelf.specs.Told.{Told}
use Rattle.lsm_shelf.specs.declared.shelf_fault.ShelfFault.{ShelfFault}
use Rattle.lsm_manifest.specs.FileOrder.{TableFile}
use Rattle.lsm_manifest.specs.Replay.{FileAt}
use Rattle.lsm_import.specs.Copied.{usual}
use Rattle.lsm_import.specs.Copies.{IsCopy, IsCopyRefusal}
use Rattle.lsm_import.specs.LogTable.{NoneRefuses}
use Rattle.lsm_import.specs.declared.import_fault.ImportFault.{ImportFault}
use Rattle.lsm_import.specs.declared.import_fault.ImportFault.TheVariants.{OutOfMemory, WrongRange}
use Rattle.lsm_mirror.specs.Shown.{shown_image}

-- The shelf read its manifest, listed its tables and loaded tables at most: what it was told of
-- what lies there is as it was.
pub record OnlyLooks (old new : Told) : Type 0 where
  pub place : new.place ≡ old.place
  pub puts : new.puts ≡ old.puts
  pub gone : new.gone ≡ old.gone
  pub starts : new.starts ≡ old.starts
  pub written : new.written ≡ old.written
  pub forks : new.forks ≡ old.forks
  pub made : new.made ≡ old.made

-- What is shown of the images of a shelf: these, or their plain tables. `From` says which images
-- the shelf holds under which numbers.
abbrev pub Shows : (ℕ → List ℕ → Type 0) → Bool → ℕ → List ℕ → Type 0
Shows From inflates number image =
    (packed : List ℕ) × From number packed × (image ≡ shown_image inflates packed)

-- The shelf holds a table of these entries for the file, of the size that the manifest says, and
-- its plain table is shown: of it the second is the file, at the same level, under the same number,
-- with the same keys.
pub record IsPlainFile (From : ℕ → List ℕ → Type 0) (file shown : FileAt) (entries : List Entry)
    : Type 0 where
  pub copy : IsCopy From (Shows From true) file shown entries
  pub sized : length copy.packed ≡ file.file.size

-- So it is with each file, in the same order; these are the entries of all.
abbrev pub ArePlainFiles : (ℕ → List ℕ → Type 0) → List FileAt → List FileAt → List Entry → Type 0
ArePlainFiles From [] [] es = es ≡ []
ArePlainFiles From [] (s ∷ ss) es = ⊥
ArePlainFiles From (f ∷ fs) [] es = ⊥
ArePlainFiles From (f ∷ fs) (s ∷ ss) es =
    (own : List Entry) × (later : List Entry) × (es ≡ own ++ later) × IsPlainFile From f s own
    × ArePlainFiles From fs ss later

-- the files of the tables that are shown
abbrev pub AreShownFiles : (ℕ → List ℕ → Type 0) → Bool → List FileAt → List FileAt → Type 0
AreShownFiles From true files shown = (es : List Entry) × ArePlainFiles From files shown es
AreShownFiles From false files shown = shown ≡ files

-- ---- refusals

-- the shelf holds an image for the file of another size than the manifest says
abbrev pub HasOtherSize : (ℕ → List ℕ → Type 0) → TableFile → ImportFault → Type 0
HasOtherSize From file fault = (fault ≡ WrongRange file.number)
    × ((packed : List ℕ) × From file.number packed × (length packed ≢ file.size))

-- Why a file's table is not shown plain. `Denied` says which calls the shelf refuses with which
-- faults.
abbrev pub IsFileRefusal : (ℕ → List ℕ → Type 0) → (Asked → ShelfFault → Type 0) → TableFile
    → ImportFault → Type 0
IsFileRefusal From Denied file fault =
    HasOtherSize From file fault ⊎ IsCopyRefusal From Denied NoneRefuses usual file fault

-- memory ran out, or one of the files is refused
abbrev pub AreNotPlain : (ℕ → List ℕ → Type 0) → (Asked → ShelfFault → Type 0) → List FileAt
    → ImportFault → Type 0
AreNotPlain From Denied files fault = (fault ≡ OutOfMemory)
    ⊎ ((file : FileAt) × Has files file × IsFileRefusal From Denied file.file fault)
