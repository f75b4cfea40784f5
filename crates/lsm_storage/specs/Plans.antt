-- What a shelf asks of its folder, in which order, and what it makes of a refusal (LevelDB's
-- `doc/impl.md`: tables, manifest, `CURRENT`).
use Rattle.std.specs.Prelude.{◌≡◌, ◌≢◌, ◌⊎◌, ◌↔◌, ℕ, ◌+◌, ◌<◌, ◌≤◌, ◌^◌, List, [], ◌∷◌, length}
use Rattle.std.specs.Prelude.{codes, Option, None, Some, Result, Ok, Err}
use Rattle.std.specs.List.{Contains}
use Rattle.lsm_folder.specs.Calls.{Call, Answer, made, wrote, appended, synced, folder_synced}
use Rattle.lsm_folder.specs.Calls.{renamed, removed, measured, read, loaded, listed}
use Rattle.lsm_folder.specs.Finding.{Unfound}
use Rattle.lsm_folder.specs.declared.folder_fault.FolderFault.{FolderFault}
use Rattle.lsm_folder.specs.declared.folder_fault.FolderFault.TheVariants as folder
use Rattle.lsm_storage.specs.FileNames.{table_name, manifest_name, temporary_name, current_text}
use Rattle.lsm_storage.specs.FileNames.{IsNumberOf}
use Rattle.lsm_storage.specs.FolderFault.{device_of, missing_of, taken_of, undone_of}
use Rattle.lsm_shelf.specs.declared.shelf_fault.ShelfFault.{ShelfFault}
use Rattle.lsm_shelf.specs.declared.shelf_fault.ShelfFault.TheVariants.{OutOfMemory, Device}
use Rattle.lsm_shelf.specs.declared.shelf_fault.ShelfFault.TheVariants.{Missing, Taken}

-- a call that is still to be answered
abbrev pub Step : Type 0
Step = Answer → Call

-- all the calls of the plan were made, one after another, and each was Ok
abbrev pub done : List Step → List Call → List Call
done [] calls = calls
done (s ∷ ss) calls = done ss (s (Ok tt) ∷ calls)

-- a front of the plan was Ok, and the next call was refused with this fault
abbrev pub Refused : List Step → FolderFault → (old new : List Call) → Type 0
Refused [] fault old new = ⊥
Refused (s ∷ ss) fault old new =
    (new ≡ s (Err fault) ∷ old) ⊎ Refused ss fault (s (Ok tt) ∷ old) new

-- memory was refused, and nothing was asked
abbrev pub Unasked : ShelfFault → (old new : List Call) → Type 0
Unasked e old new = (e ≡ OutOfMemory) × (new ≡ old)

-- a call on a file that must be there was not Ok: memory was refused before it, or the folder
-- refused it
abbrev pub Unanswered : (FolderFault → Call) → ShelfFault → (old new : List Call) → Type 0
Unanswered call e old new = Unasked e old new
    ⊎ ((fault : FolderFault) × (new ≡ call fault ∷ old) × (e ≡ missing_of fault))

-- A call and the one that makes it durable were not both Ok: the first was not; or it was, and the
-- second was refused, which is the device however it was refused
abbrev pub Unsettled : (first second : Step) → ShelfFault → (old new : List Call) → Type 0
Unsettled first second e old new = Unanswered (λ fault. first (Err fault)) e old new
    ⊎ ((fault : FolderFault) × (new ≡ second (Err fault) ∷ first (Ok tt) ∷ old) × (e ≡ Device))

-- a file that was written is made durable, and then its name
abbrev pub durable_plan : (name : List ℕ) → List Step
durable_plan name = synced name ∷ folder_synced ∷ []

-- a table is written, then it is made durable, then its name
abbrev pub put_plan : (number : ℕ) (image : List ℕ) → List Step
put_plan number image = made (table_name number) image ∷ durable_plan (table_name number)

-- The file of this name is not durable: what was to make it so was refused; then it was asked to be
-- removed
abbrev pub Undone : (name : List ℕ) → ShelfFault → (old new : List Call) → Type 0
Undone name e old new = (fault : FolderFault) × (mid : List Call) × (answer : Answer)
    × Refused (durable_plan name) fault old mid × (new ≡ removed name answer ∷ mid)
    × (e ≡ undone_of answer fault)

-- A table was not put: nothing was asked, since memory was refused or the image is larger than 1
-- GiB; or no file was made; or one was, what was to make it durable was refused, and it was asked
-- to be removed
abbrev pub PutStopped : (number : ℕ) (image : List ℕ) → ShelfFault → (old new : List Call) → Type 0
PutStopped number image e old new =
    Unasked e old new ⊎ (((new ≡ old) × (e ≡ Device) × (2 ^ 30 < length image))
    ⊎ (((fault : FolderFault) × (new ≡ made (table_name number) image (Err fault) ∷ old)
    × (e ≡ taken_of number fault))
    ⊎ Undone (table_name number) e (made (table_name number) image (Ok tt) ∷ old) new))

-- a part of a table was not read
abbrev pub PartUnread : (number : ℕ) (image : List ℕ) (offset len : ℕ) → ShelfFault
    → (old new : List Call) → Type 0
PartUnread number image offset len e old new =
    Unanswered (λ fault. read (table_name number) image offset len (Err fault)) e old new

-- a table was not read whole
abbrev pub TableUnread : (number : ℕ) → ShelfFault → (old new : List Call) → Type 0
TableUnread number e old new =
    Unanswered (λ fault. loaded (table_name number) (Err fault)) e old new

-- a table was not found: memory was refused before its file was asked for, or the folder refused
abbrev pub TableUnfound : (number : ℕ) → ShelfFault → (old new : List Call) → Type 0
TableUnfound number e old new = Unasked e old new
    ⊎ ((fault : FolderFault) × Unfound (table_name number) fault old new
    × (e ≡ missing_of fault))

-- a table is removed; the removal is durable once the folder's names are, after another call
abbrev pub remove_plan : (number : ℕ) → List Step
remove_plan number = removed (table_name number) ∷ []

-- a table was not removed
abbrev pub RemoveStopped : (number : ℕ) → ShelfFault → (old new : List Call) → Type 0
RemoveStopped number e old new =
    Unanswered (λ fault. removed (table_name number) (Err fault)) e old new

-- the numbers are those of the names that are tables'
pub record AreTablesOf (names : List (List ℕ)) (numbers : List ℕ) : Type 0 where
  pub each : (n : ℕ) → n < 2 ^ 64 → (Contains numbers n ↔ Contains names (table_name n))

-- the folder refused to list its names
abbrev pub Unlisted : ShelfFault → (old new : List Call) → Type 0
Unlisted e old new = (fault : FolderFault) × (new ≡ listed (Err fault) ∷ old)
    × (e ≡ device_of fault)

-- no numbers were listed: the folder refused, or it answered names and memory was refused
abbrev pub ListStopped : ShelfFault → (old new : List Call) → Type 0
ListStopped e old new = Unlisted e old new
    ⊎ ((names : List (List ℕ)) × (new ≡ listed (Ok names) ∷ old) × (e ≡ OutOfMemory))

-- `CURRENT` was asked for, and this was the answer
abbrev pub current_read : Result (List ℕ) FolderFault → List Call → List Call
current_read answer calls = loaded (codes "CURRENT") answer ∷ calls

-- the folder refused to read `CURRENT`; it is `Missing` just where `CURRENT` is not there, or
-- longer than each text that names a manifest
abbrev pub CurrentUnread : ShelfFault → (old new : List Call) → Type 0
CurrentUnread e old new = (fault : FolderFault) × (new ≡ current_read (Err fault) old)
    × (e ≡ missing_of fault)

-- the text of `CURRENT` names no manifest
abbrev pub NamesNone : List ℕ → Type 0
NamesNone text = (n : ℕ) → n < 2 ^ 64 → text ≢ current_text n

-- a text of `CURRENT` gave no manifest: memory was refused, or it names none
abbrev pub NoneIn : (text : List ℕ) → ShelfFault → Type 0
NoneIn text e = (e ≡ OutOfMemory) ⊎ ((e ≡ Missing) × NamesNone text)

-- no manifest was found: the folder refused to read `CURRENT`, or its text gave none
abbrev pub CurrentStopped : ShelfFault → (old new : List Call) → Type 0
CurrentStopped e old new = CurrentUnread e old new
    ⊎ ((text : List ℕ) × (new ≡ current_read (Ok text) old) × NoneIn text e)

-- The manifest of this number is not the one that `CURRENT` names: `CURRENT` holds another text, or
-- is not there. A `CURRENT` that could not be read tells neither
abbrev pub NamesOther : (number : ℕ) → Result (List ℕ) FolderFault → Type 0
NamesOther number (Ok text) = text ≢ current_text number
NamesOther number (Err fault) = fault ≡ folder.Missing

-- The number of the manifest that an answer of `CURRENT` names, or none, where it names none. A
-- `CURRENT` that could not be read tells neither
abbrev pub IsNamedBy : Result (List ℕ) FolderFault → Option ℕ → Type 0
IsNamedBy (Ok text) o = IsNumberOf current_text text o
IsNamedBy (Err fault) o = (fault ≡ folder.Missing) × (o ≡ None)

-- a file gets the name `CURRENT`, and that is made durable
abbrev pub current_plan : (name : List ℕ) → List Step
current_plan name = renamed name (codes "CURRENT") ∷ folder_synced ∷ []

-- `CURRENT` is to name the manifest of this number: the new text is durable under another name
-- before it has that one
abbrev pub name_plan : (number : ℕ) → List Step
name_plan number = wrote (temporary_name number) (current_text number)
    ∷ synced (temporary_name number) ∷ current_plan (temporary_name number)

-- a manifest is durable, and its name, before `CURRENT` names it
abbrev pub start_plan : (number : ℕ) (bytes : List ℕ) → List Step
start_plan number bytes = wrote (manifest_name number) bytes ∷ synced (manifest_name number)
    ∷ folder_synced ∷ name_plan number

-- The manifest that was followed is removed at last, whatever is answered: no sync comes behind it.
-- Where none was followed, nothing is removed
abbrev pub Clears : (followed : Option ℕ) (old new : List Call) → Type 0
Clears None old new = new ≡ old
Clears (Some m) old new = (m < 2 ^ 64) × ((answer : Answer)
    × (new ≡ removed (manifest_name m) answer ∷ old))

-- `CURRENT` was asked for, and did not name the manifest of this number; then that was started, and
-- the one that `CURRENT` named, if it named one, was removed
abbrev pub StartedFrom : (number : ℕ) (bytes : List ℕ) (old new : List Call) → Type 0
StartedFrom number bytes old new = (answer : Result (List ℕ) FolderFault)
    × NamesOther number answer × ((followed : Option ℕ) × IsNamedBy answer followed
    × Clears followed (done (start_plan number bytes) (current_read answer old)) new)

-- the plan before the call that gives `CURRENT` its new text
abbrev pub unnamed_plan : (number : ℕ) (bytes : List ℕ) → List Step
unnamed_plan number bytes = wrote (manifest_name number) bytes ∷ synced (manifest_name number)
    ∷ folder_synced
    ∷ wrote (temporary_name number) (current_text number) ∷ synced (temporary_name number) ∷ []

-- A manifest was not written, or its name not made `CURRENT`'s for good: memory was refused before;
-- or a front of the plan was made, which stopped before `CURRENT` was to have its new text; or it
-- was to have it, and that was refused, or is not durable: which is the device however it was
-- refused, as `CURRENT` may have the text
abbrev pub WriteStopped : (number : ℕ) (bytes : List ℕ) → ShelfFault → (old new : List Call)
    → Type 0
WriteStopped number bytes e old new = Unasked e old new
    ⊎ (((fault : FolderFault) × Refused (unnamed_plan number bytes) fault old new
    × (e ≡ device_of fault))
    ⊎ ((fault : FolderFault) × Refused (current_plan (temporary_name number)) fault
    (done (unnamed_plan number bytes) old) new × (e ≡ Device)))

-- No manifest was started: the bytes are larger than 1 GiB, and nothing was asked; or `CURRENT` was
-- asked for alone, since it was refused, memory was, or it names the manifest of this number; or it
-- does not name it, and the plan stopped
abbrev pub StartStopped : (number : ℕ) (bytes : List ℕ) → ShelfFault → (old new : List Call)
    → Type 0
StartStopped number bytes e old new = ((new ≡ old) × (e ≡ Device) × (2 ^ 30 < length bytes))
    ⊎ (CurrentStopped e old new
    ⊎ (((new ≡ current_read (Ok (current_text number)) old) × (e ≡ Taken number))
    ⊎ ((answer : Result (List ℕ) FolderFault) × NamesOther number answer
    × WriteStopped number bytes e (current_read answer old) new)))

-- `CURRENT` named this manifest, and it was read whole
abbrev pub manifest_read : (number : ℕ) (bytes : List ℕ) → List Call → List Call
manifest_read number bytes calls =
    loaded (manifest_name number) (Ok bytes) ∷ current_read (Ok (current_text number)) calls

-- no manifest was read: none was found, or the one that `CURRENT` names was not read
abbrev pub ReadStopped : ShelfFault → (old new : List Call) → Type 0
ReadStopped e old new = CurrentStopped e old new
    ⊎ ((n : ℕ) × Unanswered (λ fault.
    loaded (manifest_name n) (Err fault)) e (current_read (Ok (current_text n)) old) new)

-- bytes are put behind those of the manifest, and made durable
abbrev pub append_plan : (number : ℕ) (bytes : List ℕ) → List Step
append_plan number bytes = appended (manifest_name number) bytes ∷ synced (manifest_name number)
    ∷ []

-- `CURRENT` named this manifest, and it had so many bytes
abbrev pub manifest_measured : (number len : ℕ) → List Call → List Call
manifest_measured number len calls =
    measured (manifest_name number) (Ok len) ∷ current_read (Ok (current_text number)) calls

-- no manifest was measured: none was found, or the one that `CURRENT` names was not measured
abbrev pub MeasureStopped : ShelfFault → (old new : List Call) → Type 0
MeasureStopped e old new = CurrentStopped e old new
    ⊎ ((n : ℕ) × Unanswered (λ fault.
    measured (manifest_name n) (Err fault)) e (current_read (Ok (current_text n)) old) new)

-- bytes were not put behind those of a manifest for good
abbrev pub BehindStopped : (number : ℕ) (bytes : List ℕ) → ShelfFault → (old new : List Call)
    → Type 0
BehindStopped number bytes e old new =
    Unsettled (appended (manifest_name number) bytes) (synced (manifest_name number)) e old new

-- Nothing was appended for good: no manifest was measured; or one was, and has no room below 1 GiB,
-- which is the device; or it has room, and the plan stopped
abbrev pub AppendStopped : (bytes : List ℕ) → ShelfFault → (old new : List Call) → Type 0
AppendStopped bytes e old new = MeasureStopped e old new
    ⊎ (((n : ℕ) × (len : ℕ) × (new ≡ manifest_measured n len old) × (e ≡ Device)
    × (2 ^ 30 < len + length bytes))
    ⊎ ((n : ℕ) × (len : ℕ) × (len + length bytes ≤ 2 ^ 30)
    × BehindStopped n bytes e (manifest_measured n len old) new))
