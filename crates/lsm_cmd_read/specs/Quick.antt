-- What a command comes to on a directory whose tables are found and not read, and why it does not
-- (this project's rule).
use Rattle.std.specs.Prelude.{◌≡◌, ◌≢◌, ◌⊎◌, ℕ, Bool, true, false, IsTrue, List, Option}
use Rattle.std.specs.Io.KnownBytes.{Keeps}
use Rattle.lsm_manifest.specs.Shape.{Form as Shape}
use Rattle.lsm_shelf.specs.Asked.{Asked}
use Rattle.lsm_shelf.specs.declared.shelf_fault.ShelfFault.{ShelfFault}
use Rattle.lsm_shelf.specs.Told.{Told}
use Rattle.lsm_version.specs.Versions.{Levels}
use Rattle.lsm_journal.specs.declared.manifest_limit.ManifestLimit.{ManifestLimit}
use Rattle.lsm_journal.specs.HeldManifest.{HeldManifest}
use Rattle.lsm_journal.specs.declared.open_fault.OpenFault.{OpenFault}
use Rattle.lsm_admission.specs.Admitted.{IsAdmitted, IsOpenRefusal}
use Rattle.lsm_admission.specs.Keeping.{KeepsTables}
use Rattle.lsm_requests.specs.declared.directory_command.DirectoryCommand.{DirectoryCommand}
use Rattle.lsm_requests.specs.declared.directory_command.DirectoryCommand.TheVariants.{
  Check,
  List as ListFiles,
  Get,
  Scan,
}
use Rattle.lsm_directory.specs.Beside.{IsFirstLeftOut, IsWhole}
use Rattle.lsm_directory.specs.DirectoryFault.{of_open}
use Rattle.lsm_directory.specs.declared.faults.directory_fault.DirectoryFault.{DirectoryFault}
use Rattle.lsm_directory.specs.declared.faults.directory_fault.DirectoryFault.TheVariants.{Write}
use Rattle.lsm_directory.specs.declared.folder.named_manifest.NamedManifest.{NamedManifest}
use Rattle.lsm_cmd_read.specs.Answers.{Asking, IsPerformFault, IsQuiet, Moment, Prints}
use Rattle.lsm_cmd_read.specs.Answers.{PrintsBefore, ReliesOn}
use Rattle.lsm_cmd_read.specs.Directory.{AreGiven, Holds}

-- ---- which lines may be quick

-- a check, which judges every table
abbrev pub is_check : DirectoryCommand → Bool
is_check (Check workers) = true
is_check ListFiles = false
is_check (Get key output) = false
is_check (Scan options) = false

-- whether a command is quick, by whether its line says so: every other one may be
abbrev pub is_quick : DirectoryCommand → Bool → Bool
is_quick (Check workers) quick = false
is_quick ListFiles quick = quick
is_quick (Get key output) quick = quick
is_quick (Scan options) quick = quick

-- ---- what the directory holds

-- Between these moments the shelf read its manifest, which has this number and comes to the shape,
-- and listed its tables; each table of the version was found for a file of the shape, and none was
-- read till then. So many bytes at the manifest's end hold no whole record, and it has these
-- numbers of the write-ahead log and of the one before it. `Files` says which images the shelf
-- keeps under which numbers, and `Stored` which it gave, as it did those of these tables.
pub record Admits (Files Stored : ℕ → List ℕ → Type 0) (shape : Shape) (was is : Told) (v : Levels)
    (m : NamedManifest) : Type 0 where
  pub held : HeldManifest
  pub limit : ManifestLimit
  pub next : ℕ
  pub admitted : IsAdmitted Files shape limit held v m.rest next was is
  pub numbered : held.number ≡ m.number
  pub logs : held.log ≡ m.log
  pub previous : held.prev_log ≡ m.prev_log
  pub given : AreGiven Stored v

-- ---- what is done

-- The directory's tables are admitted, and nothing is left out where that is asked for; where
-- `Kept` holds, it holds the version as after a judgment of every table. What the command prints of
-- the version was written (by `get` and `scan`, where `Kept` holds), and standard error is quiet.
pub record IsQuicklyLookedInto (asked : Asking) (Files Stored : ℕ → List ℕ → Type 0)
    (Kept : Type 0) (shape : Shape) (before after : Moment)
    (said_old said_new : Option (List ℕ)) : Type 0 where
  pub version : Levels
  pub manifest : NamedManifest
  pub admits : Admits Files Stored shape before.told after.told version manifest
  pub holds : Kept → Holds Kept before.told after.told version manifest
  pub whole : IsTrue asked.strict → IsWhole manifest asked.beside
  pub printed : ReliesOn Kept asked.command
      → Prints asked.form asked.command version manifest asked.beside before.out after.out
  pub quiet : IsQuiet asked.command asked.progress manifest asked.beside said_old said_new

-- The shelf gave a manifest; so it was, under `Honest` and where the shelf keeps the tables of the
-- shape that this manifest comes to.
abbrev pub LooksQuickly : Asking → (Files Stored : ℕ → List ℕ → Type 0) → Type 0
    → (before after : Moment) → (said_old said_new : Option (List ℕ)) → Type 0
LooksQuickly asked Files Stored Honest before after said_old said_new =
    (shape : Shape) × IsQuicklyLookedInto asked Files Stored (Honest × KeepsTables Files shape)
    shape before after said_old said_new

-- ---- what is not

-- The directory is not opened, and nothing was written.
pub record IsUnadmitted (Files : ℕ → List ℕ → Type 0) (Refused : Asked → ShelfFault → Type 0)
    (fault : DirectoryFault) (before after : Moment) : Type 0 where
  pub cause : OpenFault
  pub is : fault ≡ of_open cause
  pub why : IsOpenRefusal Files Refused cause before.told after.told
  pub left : Keeps before.out after.out

-- Nothing is to be left out, and of the manifest this is; nothing was written.
abbrev pub IsLeftOut : Asking → NamedManifest → DirectoryFault → (before after : Moment) → Type 0
IsLeftOut asked m fault before after =
    IsTrue asked.strict × IsFirstLeftOut m asked.beside fault × Keeps before.out after.out

-- Memory ran out, a write failed, a read of a table was refused (where `Kept` holds, by the shelf
-- or for want of memory), or the key is absent; and what was written before.
abbrev pub IsStopped : Asking → Type 0 → Levels → DirectoryFault → (before after : Moment) → Type 0
IsStopped asked Kept v fault before after =
    IsPerformFault Kept asked.command v fault before.told after.told
    × (fault ≢ Write → PrintsBefore asked.form asked.command Kept v before.out after.out)

-- The directory's tables are admitted, and the command was not done.
pub record IsUnanswered (asked : Asking) (Files Stored : ℕ → List ℕ → Type 0)
    (Kept : Type 0) (shape : Shape) (fault : DirectoryFault) (before after : Moment) : Type 0 where
  pub version : Levels
  pub manifest : NamedManifest
  pub admits : Admits Files Stored shape before.told after.told version manifest
  pub holds : Kept → Holds Kept before.told after.told version manifest
  pub why : IsLeftOut asked manifest fault before after
      ⊎ IsStopped asked Kept version fault before after

-- Either of it.
abbrev pub IsUndone : Asking → (Files Stored : ℕ → List ℕ → Type 0)
    → (Asked → ShelfFault → Type 0) → Type 0 → Shape → DirectoryFault → (before after : Moment)
    → Type 0
IsUndone asked Files Stored Refused Kept shape fault before after =
    IsUnadmitted Files Refused fault before after
    ⊎ IsUnanswered asked Files Stored Kept shape fault before after

-- The directory is not opened; or it is, and under `Honest` and where the shelf keeps the tables of
-- the shape that its manifest comes to, the command was not done.
abbrev pub FailsQuickly : Asking → (Files Stored : ℕ → List ℕ → Type 0)
    → (Asked → ShelfFault → Type 0) → Type 0 → DirectoryFault → (before after : Moment) → Type 0
FailsQuickly asked Files Stored Refused Honest fault before after =
    IsUnadmitted Files Refused fault before after
    ⊎ ((shape : Shape) × IsUnanswered asked Files Stored (Honest × KeepsTables Files shape) shape
    fault before after)
