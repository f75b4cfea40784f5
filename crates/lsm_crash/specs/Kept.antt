-- What a folder keeps for an opening that reads no table, as LevelDB opens one
-- (`VersionSet::Recover`): of the manifest that `CURRENT` names the tables, with the age order.
use Rattle.std.specs.Prelude.{◌≡◌, ℕ, ◌^◌, ◌<◌, List, [], ◌∷◌, length, Some}
use Rattle.lsm_codec.specs.Lists.{Has}
use Rattle.lsm_storage.specs.FileNames.{table_name, manifest_name, current_text}
use Rattle.lsm_manifest.specs.FileOrder.{TableFile}
use Rattle.lsm_verify.specs.Loading.{all_files}
use Rattle.lsm_journal.specs.HeldManifest.{HeldManifest}
use Rattle.lsm_admission.specs.Keeping.{KeepsTables}
use Rattle.lsm_crash.specs.Disk.{Disk, Shows}
use Rattle.lsm_crash.specs.Crash.{Found}
use Rattle.lsm_crash.specs.Versions.{ComesTo, Tables, Version}
use Rattle.lsm_crash.specs.Known.{Known, World, current_name}
use Rattle.lsm_crash.specs.Operations.{Append, Operation, Put, Remove, Start, after}
use Rattle.lsm_crash.specs.Among.{Counts, Does, Event, counting}
use Rattle.lsm_crash.specs.History.{Breaks, Crashes, Empties, Move, Others, Phase, Rests, Runs}
use Rattle.lsm_crash.specs.History.{Starts, Stops, StopsUnseen, Sure, Unsure}

-- `Lies` says which images lie under which numbers. Under the number of each file of the version
-- lies an image, and each that does has the file's size; it is the file's table, and of a user
-- key's entries those that lie shallower are newer (`KeepsTables`).
pub record IsKept (Lies : ℕ → List ℕ → Type 0) (v : Version) : Type 0 where
  pub tables : KeepsTables Lies v
  pub there : (file : TableFile) → Has (all_files v.levels) file
      → (image : List ℕ) × Lies file.number image
  pub sizes : (file : TableFile) (image : List ℕ) → Has (all_files v.levels) file
      → Lies file.number image → length image ≡ file.size

-- ---- a folder

-- The version to which the manifest that `CURRENT` shows comes, if there is one, is kept by the
-- folder.
abbrev pub KeepsShown : Disk → Type 0
KeepsShown d = (number : ℕ) (bytes : List ℕ) (v : Version) → number < 2 ^ 64
    → Shows d current_name (current_text number) → Shows d (manifest_name number) bytes
    → ComesTo bytes v → IsKept (λ n image. Shows d (table_name n) image) v

-- the same of what is found after a crash
abbrev pub KeepsFound : Found → Type 0
KeepsFound found = (number : ℕ) (bytes : List ℕ) (v : Version) → number < 2 ^ 64
    → found current_name ≡ Some (current_text number)
    → found (manifest_name number) ≡ Some bytes
    → ComesTo bytes v → IsKept (λ n image. found (table_name n) ≡ Some image) v

-- What an opening that reads no table was given is what the folder shows: the manifest that was
-- read is the one that `CURRENT` names, and of the number and the size of a file of the shape the
-- shelf keeps no other image than the folder shows. That the shape is the manifest's the laws say.
pub record FindsShown (Keeps : ℕ → List ℕ → Type 0) (h : HeldManifest) (shape : Version)
    (d : Disk) : Type 0 where
  pub current : Shows d current_name (current_text h.number)
  pub manifest : Shows d (manifest_name h.number) h.bytes
  pub images : (file : TableFile) (image : List ℕ) → Has (all_files shape.levels) file
      → length image ≡ file.size → Keeps file.number image
      → Shows d (table_name file.number) image

-- ---- what is counted on

-- the image is counted on under the number
abbrev pub IsCounted : Tables → ℕ → List ℕ → Type 0
IsCounted tables number image = tables number ≡ Some image

-- each version that may be is kept by the tables that are counted on
abbrev pub AreKept : Known → Type 0
AreKept known = (v : Version) → Has known.versions v → IsKept (IsCounted known.tables) v

abbrev pub IsKeptPhase : Phase → Type 0
IsKeptPhase (Sure w) = IsKept (IsCounted w.tables) w.version
IsKeptPhase (Unsure known) = AreKept known

-- ---- what is written

-- the version to which the manifest is brought is kept by the tables that are counted on
abbrev pub KeepsWritten : World → Operation → Type 0
KeepsWritten w (Put number image) = Unit {0}
KeepsWritten w (Remove number) = Unit {0}
KeepsWritten w (Append text version) = IsKept (IsCounted w.tables) version
KeepsWritten w (Start number bytes version) = IsKept (IsCounted w.tables) version

-- so each one of a run, by what is counted on where all that came before it was answered Ok
abbrev pub KeepsEach : World → List Event → Type 0
KeepsEach w [] = Unit {0}
KeepsEach w (Counts number image ∷ es) = KeepsEach (counting number image w) es
KeepsEach w (Does o ∷ es) = KeepsWritten w o × KeepsEach (after w o) es

-- and each one of a history
abbrev pub KeepsMoved : Move → Type 0
KeepsMoved (Runs w events u) = KeepsEach w events
KeepsMoved (Breaks w o) = KeepsWritten w o
KeepsMoved (Rests w) = Unit {0}
KeepsMoved (Starts known number bytes version) = IsKept (IsCounted known.tables) version
KeepsMoved (Stops known number bytes version) = IsKept (IsCounted known.tables) version
KeepsMoved (StopsUnseen known number bytes version) = Unit {0}
KeepsMoved (Others known) = Unit {0}
KeepsMoved (Crashes known found w) = Unit {0}
KeepsMoved (Empties known found) = Unit {0}

abbrev pub KeepsAll : List Move → Type 0
KeepsAll [] = Unit {0}
KeepsAll (m ∷ ms) = KeepsMoved m × KeepsAll ms
