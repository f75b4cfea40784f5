-- What an opening was given, and for what it is refused.
use Rattle.std.specs.Prelude.{◌≡◌, ℕ, ◌^◌, ◌<◌, true, List}
use Rattle.lsm_codec.specs.Lists.{Has}
use Rattle.lsm_storage.specs.FileNames.{table_name, manifest_name, current_text}
use Rattle.lsm_shelf.specs.Told.{Told, Becomes, finding}
use Rattle.lsm_shelf.specs.declared.shelf_fault.ShelfFault.{ShelfFault}
use Rattle.lsm_shelf.specs.declared.shelf_fault.ShelfFault.TheVariants as shelf
use Rattle.lsm_manifest.specs.EditView as edit_view
use Rattle.lsm_manifest.specs.LogView as log_view
use Rattle.lsm_manifest.specs.declared.replay_fault.ReplayFault.TheVariants as replay
use Rattle.lsm_table.specs.ReadFault.{IsMemory}
use Rattle.lsm_table.specs.Registry.{Table}
use Rattle.lsm_table.specs.declared.read_fault.ReadFault.TheVariants as read
use Rattle.lsm_version.specs.Versions.{Levels, level_in}
use Rattle.lsm_verify.specs.declared.check_fault.CheckFault.{CheckFault}
use Rattle.lsm_verify.specs.declared.check_fault.CheckFault.TheVariants as check
use Rattle.lsm_journal.specs.declared.open_fault.OpenFault.{OpenFault}
use Rattle.lsm_journal.specs.declared.open_fault.OpenFault.TheVariants as opening
use Rattle.lsm_journal.specs.declared.recover_fault.RecoverFault.{RecoverFault}
use Rattle.lsm_journal.specs.declared.recover_fault.RecoverFault.TheVariants as recover
use Rattle.lsm_crash.specs.Disk.{Disk, Shows}
use Rattle.lsm_crash.specs.Known.{current_name}

-- What the shelf gave is what the folder shows: the manifest that it read is the one that `CURRENT`
-- names, and an image that it holds under the number of a table of the version is that table's
-- file. `Stored` says which images the shelf holds, in the words of a refused opening.
pub record ReadsShown (Stored : ℕ → List ℕ → Type 0) (v : Levels) (d : Disk)
    (was is : Told) : Type 0 where
  pub small : (number : ℕ) (bytes : List ℕ) → Becomes (finding number bytes was) is
      → number < 2 ^ 64
  pub current : (number : ℕ) (bytes : List ℕ) → Becomes (finding number bytes was) is
      → Shows d current_name (current_text number)
  pub manifest : (number : ℕ) (bytes : List ℕ) → Becomes (finding number bytes was) is
      → Shows d (manifest_name number) bytes
  pub images : (level : ℕ) (t : Table) (image : List ℕ) → Has (level_in v.tables level) t
      → Stored t.number image → Shows d (table_name t.number) image

-- memory ran out, or the device failed
abbrev pub IsWantOrDevice : ShelfFault → Type 0
IsWantOrDevice shelf.OutOfMemory = Unit {0}
IsWantOrDevice shelf.Device = Unit {0}
IsWantOrDevice shelf.Missing = ⊥
IsWantOrDevice (shelf.Taken n) = ⊥

-- The manifest's bytes are not what is wrong: memory ran out, or the shelf refused with a fault of
-- which `P` holds.
abbrev pub IsNotTheManifest : (ShelfFault → Type 0) → RecoverFault → Type 0
IsNotTheManifest P (recover.Shelf fault) = P fault
IsNotTheManifest P (recover.Log fault) = log_view.is_memory fault ≡ true
IsNotTheManifest P (recover.Edit fault) = edit_view.is_memory fault ≡ true
IsNotTheManifest P (recover.Replay fault) = fault ≡ replay.OutOfMemory

-- The same of the tables: none is no table or another one, and they are a version.
abbrev pub IsNotTheTables : (ShelfFault → Type 0) → CheckFault → Type 0
IsNotTheTables P (check.Read file (read.Shelf fault)) = P fault
IsNotTheTables P (check.Read file (read.Table fault)) = IsMemory fault
IsNotTheTables P (check.DoubleFile number) = ⊥
IsNotTheTables P (check.Overlap level) = ⊥
IsNotTheTables P (check.WrongRange number) = ⊥
IsNotTheTables P (check.AgeOrder user) = ⊥

-- What was found is not what is wrong: memory ran out, or no number is left, or the shelf refused
-- with a fault of which `P` holds.
abbrev pub IsNotWhatWasFound : (ShelfFault → Type 0) → OpenFault → Type 0
IsNotWhatWasFound P opening.OutOfMemory = Unit {0}
IsNotWhatWasFound P opening.NumbersSpent = Unit {0}
IsNotWhatWasFound P (opening.Shelf fault) = P fault
IsNotWhatWasFound P (opening.Recover fault) = IsNotTheManifest P fault
IsNotWhatWasFound P (opening.Check fault) = IsNotTheTables P fault
