-- What a command that only reads comes to in a folder that is seen with its logs, or with its
-- tables plain: this project's rule. It is about a folder that was opened at the path of a line's
-- words, and about a shelf on it; that these are the run's own is to be read.
use Rattle.std.specs.Prelude.{◌≡◌, ◌⊎◌, ℕ, ◌<◌, Bool, ◌||◌, IsTrue, List, Option}
use Rattle.std.specs.Io.KnownBytes.{Keeps}
use Rattle.lsm_folder.specs.Calls.{AreHonest, Call}
use Rattle.lsm_folder.specs.declared.folder_calls.FolderCalls.{Ghosts}
use Rattle.lsm_folder.specs.declared.mark.Mark as mark
use Rattle.lsm_shelf.specs.Asked.{Asked}
use Rattle.lsm_shelf.specs.Place.{Place}
use Rattle.lsm_shelf.specs.Refusals.{MayRefuse}
use Rattle.lsm_shelf.specs.Told.{Told, fresh}
use Rattle.lsm_shelf.specs.declared.shelf_fault.ShelfFault.{ShelfFault}
use Rattle.lsm_shelf.specs.declared.table_receipt.TableReceipt as table_receipt
use Rattle.lsm_storage.specs.FileShelf.{file_number, mark_of}
use Rattle.lsm_storage.specs.declared.file.file_receipt.FileReceipt.{FileReceipt}
use Rattle.lsm_storage.specs.declared.file.file_shelf.FileShelf.{FileShelf}
use Rattle.lsm_mirror.specs.Mirrored.{MirrorStored}
use Rattle.lsm_mirror.specs.Refusals.{MirrorRefuses}
use Rattle.lsm_mirror.specs.Shown.{Shown, shown_of, shown_told}
use Rattle.lsm_preview.specs.Preview.{IsNoPreview, IsPreview}
use Rattle.lsm_preview.specs.Tables.{OnlyLooks}
use Rattle.lsm_preview.specs.declared.seen.Preview.{Preview}
use Rattle.lsm_preview.specs.declared.preview_fault.PreviewFault.{PreviewFault}
use Rattle.lsm_preview.specs.declared.sight.Sight.{Sight}
use Rattle.lsm_version.specs.Versions.{Levels}
use Rattle.lsm_opening.specs.Tidying.{OnlyReads}
use Rattle.lsm_requests.specs.declared.directory_line.DirectoryLine.{DirectoryLine}
use Rattle.lsm_directory.specs.Beside.{LooksBeside}
use Rattle.lsm_directory.specs.Folders.{IsFolderAt, stored_at, told_by}
use Rattle.lsm_directory.specs.Holding.{IsFolderFault}
use Rattle.lsm_directory.specs.declared.faults.directory_fault.DirectoryFault.{DirectoryFault}
use Rattle.lsm_directory.specs.declared.faults.directory_fault.DirectoryFault.TheVariants.{
  OutOfMemory,
  TornManifest,
}
use Rattle.lsm_directory.specs.declared.folder.beside.Beside.{Beside}
use Rattle.lsm_cmd_read.specs.Answers.{Asking, IsLookedIntoAsGiven, IsNotLookedInto, Moment}
use Rattle.lsm_cmd_read.specs.Answers.{asked_by, moment}
use Rattle.lsm_cmd_read.specs.declared.look_fault.LookFault.{LookFault}
use Rattle.lsm_cmd_read.specs.declared.look_fault.LookFault.TheVariants.{Directory, Unseen}

-- ---- which lines ask for it

abbrev pub sight_of : DirectoryLine → Sight
sight_of line = record { logs = line.logs; inflates = line.inflates }

-- logs or compressed tables are seen too
abbrev pub sees_more : DirectoryLine → Bool
sees_more line = line.logs || line.inflates

-- ---- what is shown of a shelf

-- what a mirror of a shelf was told, which counts by itself
abbrev pub IsMirrorOf : Shown → (mirror below : Told) → Type 0
IsMirrorOf shown mirror below =
    mirror ≡ record (shown_told shown below) { faults = mirror.faults; misses = mirror.misses }

-- The command was done of what is shown of the shelf. `Stored` says which images are shown under
-- which numbers.
pub record IsSeenInto (asked : Asking) (Stored : ℕ → List ℕ → Type 0) (Honest : Type 0)
    (shown : Shown) (before after : Moment) (said_old said_new : Option (List ℕ)) : Type 0 where
  pub told : Told
  pub mirrors : IsMirrorOf shown told after.told
  pub done : IsLookedIntoAsGiven asked Stored Honest
      (moment (shown_told shown before.told) before.out) (moment told after.out) said_old said_new

-- It was not, for this fault: what that says of what is shown, and what it leaves.
pub record IsNotSeenInto (asked : Asking) (Stored : ℕ → List ℕ → Type 0)
    (Refused : Asked → ShelfFault → Type 0) (Honest : Type 0) (shown : Shown)
    (fault : DirectoryFault) (before after : Moment) : Type 0 where
  pub told : Told
  pub mirrors : IsMirrorOf shown told after.told
  pub refused : IsNotLookedInto asked Stored Refused Honest fault
      (moment (shown_told shown before.told) before.out) (moment told after.out)

-- Nothing is to be left out, and so many bytes at the ends of the manifest and of the logs hold no
-- whole record; nothing was written.
abbrev pub IsCut : Asking → (rest : ℕ) → DirectoryFault → (before after : Moment) → Type 0
IsCut asked rest fault before after =
    IsTrue asked.strict × (0 < rest) × (fault ≡ TornManifest rest) × Keeps before.out after.out

-- ---- a folder and a shelf on it

-- `From` says which images the shelf holds under which numbers, `Stored` which a mirror of it
-- shows, `Denied` which calls the shelf refuses. The folder noted these calls.
module _ (sight : Sight) (asked : Asking) (From : ℕ → List ℕ → Type 0)
    (Stored : Shown → ℕ → List ℕ → Type 0) (Denied : Asked → ShelfFault → Type 0)
    (Honest : Type 0) where
  -- There is a view of what the manifest and the logs say, and of that the command was done. No
  -- bytes at their ends are left out where that is asked for; where there are none, standard error
  -- is kept before the command.
  pub record IsSeen (old new : List Call) (before after : Moment)
      (said_old said_new : Option (List ℕ)) : Type 0 where
    pub preview : Preview
    pub read : Told
    pub is : IsPreview From sight asked.beside.logs.items preview old new before.told read
    pub whole : IsTrue asked.strict → preview.rest ≡ 0
    pub said : Option (List ℕ)
    pub quiet : preview.rest ≡ 0 → Keeps said_old said
    pub done : IsSeenInto asked (Stored (shown_of preview.view)) Honest (shown_of preview.view)
        (moment read before.out) after said said_new

  -- There is a view, and the command was not done of it: what is left out, or why it stopped.
  pub record IsSeenAndRefused (fault : DirectoryFault) (old new : List Call)
      (before after : Moment) : Type 0 where
    pub preview : Preview
    pub read : Told
    pub is : IsPreview From sight asked.beside.logs.items preview old new before.told read
    pub why :
        IsCut asked preview.rest fault (moment read before.out) after
        ⊎ ((IsTrue asked.strict → preview.rest ≡ 0)
        × IsNotSeenInto asked (Stored (shown_of preview.view))
        (MirrorRefuses From Denied Honest (shown_of preview.view)) Honest
        (shown_of preview.view) fault (moment read before.out) after)

  -- There is no view, and nothing was written; or there is, and the command was not done.
  abbrev pub IsUnseen : LookFault → (old new : List Call) → (before after : Moment) → Type 0
  IsUnseen (Unseen fault) old new before after =
      IsNoPreview From Denied sight asked.beside.logs.items fault old new before.told after.told
      × Keeps before.out after.out
  IsUnseen (Directory fault) old new before after = IsSeenAndRefused fault old new before after

-- ---- a line

module _ {C M : Type 0} (folders : Ghosts C M) where
  -- The lock of the folder at the path was held, and this was found beside its tables. A shelf is
  -- on it.
  pub record IsOpenToSee (path : List ℕ) (beside : Beside) (folder : C) (begun : FileShelf C M)
      : Type 0 where
    pub opened : IsFolderAt folders path (LooksBeside beside) folder
    pub reading : told_by folders begun ≡ fresh (folders.place folder)

module _ {C M : Type 0} (folders : Ghosts C M) (marks : mark.Ghosts M) where
  -- what contracts see of the receipts of such a shelf
  abbrev pub file_receipts : table_receipt.Ghosts (FileReceipt M marks)
  file_receipts = record { number = file_number; image = λ r. marks.image (mark_of r) }

  -- which images are shown of the folder of this place under which numbers
  abbrev pub shown_at : Place → Shown → ℕ → List ℕ → Type 0
  shown_at place shown number image =
      MirrorStored file_receipts (λ r. folders.is_of place (mark_of r)) shown number image

  -- The folder at the path was opened, and it and the shelf were only read; the command was done of
  -- what is seen there.
  pub record SeesAt (line : DirectoryLine) (old new said_old said_new : Option (List ℕ)) : Type 0
    where
      pub beside : Beside
      pub folder : C
      pub begun : FileShelf C M
      pub on : IsOpenToSee folders line.path.now beside folder begun
      pub later : C
      pub ended : FileShelf C M
      pub seen :
          IsSeen (sight_of line) (asked_by line beside)
          (stored_at folders marks (told_by folders begun).place)
          (shown_at (told_by folders begun).place) MayRefuse (AreHonest folders.calls)
          (folders.calls folder) (folders.calls later) (moment (told_by folders begun) old)
          (moment (told_by folders ended) new) said_old said_new
      pub looks : OnlyLooks (told_by folders begun) (told_by folders ended)
      pub reads : OnlyReads (folders.calls folder) (folders.calls later)

  -- the version that was looked into
  abbrev pub version_seen : {line : DirectoryLine} {old new said_old said_new : Option (List ℕ)}
      → SeesAt line old new said_old said_new → Levels
  version_seen s = s.seen.done.done.looked.version

  -- So it was, but the command was not done.
  pub record FailsSeeing (line : DirectoryLine) (fault : LookFault) (old new : Option (List ℕ))
      : Type 0 where
    pub beside : Beside
    pub folder : C
    pub begun : FileShelf C M
    pub on : IsOpenToSee folders line.path.now beside folder begun
    pub later : C
    pub ended : FileShelf C M
    pub unseen :
        IsUnseen (sight_of line) (asked_by line beside)
        (stored_at folders marks (told_by folders begun).place)
        (shown_at (told_by folders begun).place) MayRefuse (AreHonest folders.calls) fault
        (folders.calls folder) (folders.calls later) (moment (told_by folders begun) old)
        (moment (told_by folders ended) new)
    pub looks : OnlyLooks (told_by folders begun) (told_by folders ended)
    pub reads : OnlyReads (folders.calls folder) (folders.calls later)

  -- memory ran out, or the folder was not opened, locked or looked at, and nothing was written; or
  -- that was so
  abbrev pub FailsToSee : DirectoryLine → LookFault → (old new : Option (List ℕ)) → Type 0
  FailsToSee line fault old new =
      (((e : DirectoryFault) × (fault ≡ Directory e) × (IsFolderFault e ⊎ (e ≡ OutOfMemory)))
      × Keeps old new)
      ⊎ FailsSeeing line fault old new
