-- Operations on the manifest among calls of other threads, which put their tables meanwhile.
use Rattle.std.specs.Prelude.{◌≡◌, ◌⊎◌, ℕ, ◌^◌, ◌<◌, List, [], ◌∷◌, Ok, Err, Some, None}
use Rattle.lsm_folder.specs.Calls.{Answer, Call, opened, made, wrote, appended, synced}
use Rattle.lsm_folder.specs.Calls.{folder_synced, renamed, removed, measured, read, loaded, listed}
use Rattle.lsm_folder.specs.Calls.{locked}
use Rattle.lsm_folder.specs.declared.folder_fault.FolderFault.{FolderFault}
use Rattle.lsm_folder.specs.declared.folder_fault.FolderFault.TheVariants as folder
use Rattle.lsm_storage.specs.FileNames.{table_name, manifest_name, temporary_name}
use Rattle.lsm_storage.specs.Plans.{Step as Asked, unnamed_plan}
use Rattle.lsm_crash.specs.Disk.{Disk, Step, set}
use Rattle.lsm_crash.specs.Versions.{Tables}
use Rattle.lsm_crash.specs.Known.{Stands, World, current_name}
use Rattle.lsm_crash.specs.Operations.{Allows, Append, Operation, Put, Remove, Start, after}
use Rattle.lsm_crash.specs.Operations.{plan_of}

-- the call does not touch what has the name
abbrev pub Avoids : List ℕ → Call → Type 0
Avoids q opened = Unit {0}
Avoids q (made name bytes answer) = name ≡ q → ⊥
Avoids q (wrote name bytes answer) = name ≡ q → ⊥
Avoids q (appended name bytes answer) = name ≡ q → ⊥
Avoids q (synced name answer) = name ≡ q → ⊥
Avoids q (folder_synced answer) = Unit {0}
Avoids q (renamed from to answer) = (from ≡ q → ⊥) × (to ≡ q → ⊥)
Avoids q (removed name answer) = name ≡ q → ⊥
Avoids q (measured name answer) = Unit {0}
Avoids q (read name image offset len answer) = Unit {0}
Avoids q (loaded name answer) = Unit {0}
Avoids q (listed answer) = Unit {0}
Avoids q (locked name kind answer) = name ≡ q → ⊥

-- A call of another thread, whatever its answer: it touches neither `CURRENT` nor a manifest nor
-- what becomes `CURRENT`, and no table that is counted on. A call that only reads is one of these.
pub record IsAside (tables : Tables) (c : Call) : Type 0 where
  pub current : Avoids current_name c
  pub manifests : (m : ℕ) → m < 2 ^ 64 → Avoids (manifest_name m) c
  pub temporaries : (m : ℕ) → m < 2 ^ 64 → Avoids (temporary_name m) c
  pub others : (number : ℕ) (image : List ℕ) → tables number ≡ Some image
      → Avoids (table_name number) c

-- such calls, as many as there are
abbrev pub Gap : Tables → List Call → Disk → Disk → Type 0
Gap tables [] d e = e ≡ d
Gap tables (c ∷ cs) d e = IsAside tables c × ((mid : Disk) × Step d c mid × Gap tables cs mid e)

abbrev pub IsGap : Tables → Disk → Disk → Type 0
IsGap tables d e = (cs : List Call) × Gap tables cs d e

-- all calls of the plan were Ok, among others
abbrev pub DoneAmong : Tables → List Asked → Disk → Disk → Type 0
DoneAmong tables [] d e = IsGap tables d e
DoneAmong tables (s ∷ ss) d e = (m : Disk) × IsGap tables d m
    × ((mid : Disk) × Step m (s (Ok tt)) mid × DoneAmong tables ss mid e)

-- A front of the plan was Ok, among others; then nothing, or a call that was refused, or cut by a
-- crash, and others.
abbrev pub CutAmong : Tables → List Asked → Disk → Disk → Type 0
CutAmong tables [] d e = IsGap tables d e
CutAmong tables (s ∷ ss) d e = (m : Disk) × IsGap tables d m
    × ((e ≡ m) ⊎ (((fault : FolderFault) × (x : Disk) × Step m (s (Err fault)) x × IsGap tables x e)
    ⊎ ((mid : Disk) × Step m (s (Ok tt)) mid × CutAmong tables ss mid e)))

-- A manifest of another number than this one is removed, whatever is answered, and others come
-- behind it; or none is.
abbrev pub Drops : Tables → (manifest : ℕ) → Disk → Disk → Type 0
Drops tables manifest d e = (e ≡ d) ⊎ ((m : ℕ) × (m < 2 ^ 64) × (m ≡ manifest → ⊥)
    × (answer : Answer) × (mid : Disk) × Step d (removed (manifest_name m) answer) mid
    × IsGap tables mid e)

-- All calls of the plan were Ok, among others; at last another manifest than this one may be
-- removed.
abbrev pub DoneDropping : Tables → (manifest : ℕ) → List Asked → Disk → Disk → Type 0
DoneDropping tables manifest plan d e = (mid : Disk) × DoneAmong tables plan d mid
    × Drops tables manifest mid e

-- that was cut, in a call of the plan, in the removal, or behind it
abbrev pub CutDropping : Tables → (manifest : ℕ) → List Asked → Disk → Disk → Type 0
CutDropping tables manifest plan d e = CutAmong tables plan d e
    ⊎ DoneDropping tables manifest plan d e

-- An operation was answered Ok. A start removes the manifest that it follows; behind any operation
-- each manifest may be removed but the one that is counted on then.
abbrev pub DoneOf : World → Operation → Disk → Disk → Type 0
DoneOf w o d e = DoneDropping (after w o).tables (after w o).manifest (plan_of w o) d e

-- it was cut, or refused anyhow
abbrev pub CutOf : World → Operation → Disk → Disk → Type 0
CutOf w o d e = CutDropping (after w o).tables (after w o).manifest (plan_of w o) d e

-- A refusal after which the database goes on: a table was put or not, or removed or not, and is not
-- counted on; of a record nothing was appended, since memory was refused; of a new manifest a call
-- before the one that gives `CURRENT` its new text was refused.
abbrev pub FailsAmong : World → Operation → Disk → Disk → Type 0
FailsAmong w (Put number image) d e = CutAmong w.tables (plan_of w (Put number image)) d e
FailsAmong w (Remove number) d e =
    CutAmong (after w (Remove number)).tables (plan_of w (Remove number)) d e
FailsAmong w (Append text version) d e = (m : Disk) × IsGap w.tables d m
    × Step m (appended (manifest_name w.manifest) text (Err folder.OutOfMemory)) e
FailsAmong w (Start number bytes version) d e = CutAmong w.tables (unnamed_plan number bytes) d e

-- what the database counts on then
abbrev pub failed : World → Operation → World
failed w (Put number image) = w
failed w (Remove number) = after w (Remove number)
failed w (Append text version) = w
failed w (Start number bytes version) = w

pub data Event : Type 0 where
  -- a table that another thread put stands from now on
  Counts : (number : ℕ) (image : List ℕ) → Event
  -- an operation that was answered Ok, or was refused and the database went on
  Does : Operation → Event

abbrev pub counting : ℕ → List ℕ → World → World
counting number image w = record w { tables = set w.tables number (Some image) }

-- events one after another, among calls of other threads
abbrev pub Goes : World → List Event → World → Disk → Disk → Type 0
Goes w [] u d e = (u ≡ w) × IsGap w.tables d e
Goes w (Counts number image ∷ es) u d e = (number < 2 ^ 64)
    × ((m : Disk) × IsGap w.tables d m × Stands m (table_name number) image
    × Goes (counting number image w) es u m e)
Goes w (Does o ∷ es) u d e = Allows w o
    × ((mid : Disk) × ((DoneOf w o d mid × Goes (after w o) es u mid e)
    ⊎ (FailsAmong w o d mid × Goes (failed w o) es u mid e)))

-- calls of any kind, one after another, none of which touches what has the name
abbrev pub Spares : List ℕ → List Call → Disk → Disk → Type 0
Spares q [] d e = e ≡ d
Spares q (c ∷ cs) d e = Avoids q c × ((mid : Disk) × Step d c mid × Spares q cs mid e)

-- ---- a cleaning

-- The name is of another manifest, of a temporary file, or of a table that is not counted on.
abbrev pub IsSpare : World → List ℕ → Type 0
IsSpare w name = ((n : ℕ) × (n < 2 ^ 64) × (n ≡ w.manifest → ⊥) × (name ≡ manifest_name n))
    ⊎ (((n : ℕ) × (n < 2 ^ 64) × (name ≡ temporary_name n))
    ⊎ ((n : ℕ) × (n < 2 ^ 64) × (w.tables n ≡ None) × (name ≡ table_name n)))

-- spare names are removed one after another, whatever is answered
abbrev pub Cleans : World → List (List ℕ) → Disk → Disk → Type 0
Cleans w [] d e = e ≡ d
Cleans w (name ∷ names) d e = IsSpare w name
    × ((answer : Answer) × (mid : Disk) × Step d (removed name answer) mid × Cleans w names mid e)
