-- What is sent to the shelf, and what the journal holds then (LevelDB's `VersionSet::LogAndApply`;
-- that a new manifest is due by its size is this project's rule).
use Rattle.std.specs.Prelude.{◌≡◌, ℕ, ◌+◌, List, [], ◌++◌, take, length, ◌⊎◌, MatchBool}
use Rattle.std.specs.Prelude.{if◌then◌else◌}
use Rattle.lsm_shelf.specs.declared.shelf_fault.ShelfFault.{ShelfFault}
use Rattle.lsm_shelf.specs.declared.shelf_fault.ShelfFault.TheVariants.{OutOfMemory, Device}
use Rattle.lsm_shelf.specs.declared.shelf_fault.ShelfFault.TheVariants.{Missing, Taken}
use Rattle.lsm_shelf.specs.Asked.{Asked, AppendManifest, ReadManifest, StartManifest}
use Rattle.lsm_shelf.specs.Told.{Told, Becomes, Counted, NotTaken, Rose, TakenIs, appending}
use Rattle.lsm_shelf.specs.Told.{finding, next_count, sending}
use Rattle.lsm_manifest.specs.Edit.{IsEdit}
use Rattle.lsm_manifest.specs.EditFit.{Change}
use Rattle.lsm_manifest.specs.EditWriting.{edit_text}
use Rattle.lsm_version.specs.Versions.{Levels}
use Rattle.lsm_journal.specs.HeldManifest.{HeldManifest, grown, is_at_limit}
use Rattle.lsm_journal.specs.Difference.{Difference}
use Rattle.lsm_journal.specs.Writing.{change_edit, first_edit_under, record_of, version_edit}

-- The record of the edit was appended, here and on the shelf. Its bytes spell the edit.
pub record Grows (edit : Change) (old new : HeldManifest) (was is : Told) : Type 0 where
  pub held : new ≡ record old { bytes = old.bytes ++ record_of old.bytes edit }
  pub sent : Becomes (appending (record_of old.bytes edit) was) is
  pub spelled : IsEdit (edit_text edit) edit

-- what a manifest holds once the first bytes of the edit's record stand behind it
abbrev pub with_front : HeldManifest → Change → ℕ → HeldManifest
with_front h edit count = record h { bytes = h.bytes ++ take count (record_of h.bytes edit) }

-- A new manifest of this number, of one edit, took the place of the one before, here and on the
-- shelf. Its bytes spell the edit. By its size the limit grows, if it does.
pub record Starts (number : ℕ) (edit : Change) (old new : HeldManifest) (was is : Told)
    : Type 0 where
  pub held : new ≡ record old {
    number = number;
    bytes = record_of [] edit;
    limit = grown old.limit (length (record_of [] edit));
  }
  pub sent : Becomes (sending number (record_of [] edit) was) is
  pub spelled : IsEdit (edit_text edit) edit

-- What a new manifest that spells this version asks of the shelf.
abbrev pub started_by : Levels → ℕ → HeldManifest → Asked
started_by v number old = StartManifest number (record_of [] (version_edit old v (number + 1)))

-- A new manifest that spells this version; its number is the next file number, which rises by one.
abbrev pub RollsOver : Levels → ℕ → HeldManifest → HeldManifest → Told → Told → Type 0
RollsOver v number old new was is = Starts number (version_edit old v (number + 1)) old new was is

-- What the change sends, and the next file number afterwards: below the limit the record of its
-- edit; from the limit on a new manifest that spells the version after it.
abbrev pub Sends : Difference → Levels → ℕ → ℕ → HeldManifest → HeldManifest → Told → Told → Type 0
Sends d w next after old new was is =
    MatchBool (is_at_limit old) ((after ≡ next + 1)
    × RollsOver w next old new was is) ((after ≡ next)
    × Grows (change_edit old d next) old new was is)

-- What the change asks of the shelf: below the limit to append the record of its edit; from the
-- limit on to start a new manifest that spells the version after it.
abbrev pub asked_by : Difference → Levels → ℕ → HeldManifest → Asked
asked_by d w next old = if is_at_limit old then started_by w next old
    else AppendManifest (record_of old.bytes (change_edit old d next))

-- why it refuses
abbrev pub IsSendRefusal : HeldManifest → ℕ → ShelfFault → Told → Told → Type 0
IsSendRefusal old next e was is =
    MatchBool (is_at_limit old) (TakenIs next e) (NotTaken e) × Counted e was is

-- Why no database was created under this number: one is there, as its manifest was read; or the
-- shelf refused, and a name taken by another was the second of its refusals that say what is there.
abbrev pub IsCreateRefusalUnder : ℕ → ShelfFault → Told → Told → Type 0
IsCreateRefusalUnder number OutOfMemory was is = Becomes was is
IsCreateRefusalUnder number Device was is = Becomes was is × Rose was.faults is.faults
IsCreateRefusalUnder number Missing was is = ⊥
IsCreateRefusalUnder number (Taken n) was is =
    ((bytes : List ℕ) × Becomes (finding n bytes was) is)
    ⊎ ((n ≡ number) × Becomes was is × Rose (next_count was.misses) is.misses)

-- the shelf answered once at most that something is missing
abbrev pub MissedOnce : Told → Told → Type 0
MissedOnce was is = (is.misses ≡ was.misses) ⊎ (is.misses ≡ next_count was.misses)

-- What a refused creation counted. Before the refusal that it tells, the shelf may have answered
-- once that no manifest is there; for want of memory, and where a manifest was read, no failure
-- more was counted, for `Device` just one, and for a name taken by another just that.
abbrev pub CreateCountedUnder : ℕ → ShelfFault → Told → Told → Type 0
CreateCountedUnder number OutOfMemory was is = (is.faults ≡ was.faults) × MissedOnce was is
CreateCountedUnder number Device was is = (is.faults ≡ next_count was.faults) × MissedOnce was is
CreateCountedUnder number Missing was is = ⊥
CreateCountedUnder number (Taken n) was is = (is.faults ≡ was.faults)
    × (((bytes : List ℕ) × Becomes (finding n bytes was) is × (is.misses ≡ was.misses))
    ⊎ ((n ≡ number) × (is.misses ≡ next_count (next_count was.misses))))

-- The shelf refused to give the manifest or to start the first one, with this fault; or a manifest
-- is there.
abbrev pub IsCreateAskedUnder : ℕ → (Asked → ShelfFault → Type 0) → ShelfFault → Told → Told
    → Type 0
IsCreateAskedUnder number Refused OutOfMemory was is = Unit {0}
IsCreateAskedUnder number Refused Device was is =
    Refused ReadManifest Device ⊎ Refused
    (StartManifest number (record_of [] (first_edit_under number))) Device
IsCreateAskedUnder number Refused Missing was is = ⊥
IsCreateAskedUnder number Refused (Taken n) was is =
    ((bytes : List ℕ) × Becomes (finding n bytes was) is)
    ⊎ Refused (StartManifest number (record_of [] (first_edit_under number))) (Taken n)

-- the same of manifest 1
abbrev pub IsCreateRefusal : ShelfFault → Told → Told → Type 0
IsCreateRefusal e was is = IsCreateRefusalUnder 1 e was is

abbrev pub CreateCounted : ShelfFault → Told → Told → Type 0
CreateCounted e was is = CreateCountedUnder 1 e was is

abbrev pub IsCreateAsked : (Asked → ShelfFault → Type 0) → ShelfFault → Told → Told → Type 0
IsCreateAsked Refused e was is = IsCreateAskedUnder 1 Refused e was is
