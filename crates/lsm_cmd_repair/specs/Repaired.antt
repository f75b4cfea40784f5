-- What a `repair` comes to, for the path of its command line: this project's rule. It is about a
-- folder that was opened at that path, and about a shelf on its place; that these are the run's own
-- is to be read.
use Rattle.std.specs.Prelude.{◌≡◌, ◌⊎◌, ℕ, List, [], ◌∷◌, ◌++◌, Option, codes, decimal}
use Rattle.std.specs.List.{flat_map}
use Rattle.std.specs.Io.KnownBytes.{Appends, Keeps}
use Rattle.lsm_folder.specs.declared.folder_calls.FolderCalls.{Ghosts}
use Rattle.lsm_folder.specs.declared.lock_kind.LockKind.TheVariants.{Exclusive}
use Rattle.lsm_folder.specs.declared.mark.Mark as mark
use Rattle.lsm_storage.specs.FileNames.{padded}
use Rattle.lsm_directory.specs.Folders.{IsFolderAt}
use Rattle.lsm_directory.specs.Holding.{IsFolderFault, IsHeld, IsUnheld}
use Rattle.lsm_directory.specs.declared.faults.directory_fault.DirectoryFault.{DirectoryFault}
use Rattle.lsm_repair.specs.LeftOut.{name_of, number_of}
use Rattle.lsm_repair.specs.Repairing.{FailsOn, RepairsOn}
use Rattle.lsm_repair.specs.declared.left_out.LeftOut.{LeftOut}
use Rattle.lsm_repair.specs.declared.mend_fault.MendFault.{MendFault}
use Rattle.lsm_repair.specs.declared.mend_fault.MendFault.TheVariants.{OutOfMemory}
use Rattle.lsm_cmd_repair.specs.declared.repair_fault.RepairFault.{RepairFault}
use Rattle.lsm_cmd_repair.specs.declared.repair_fault.RepairFault.TheVariants.{Folder, Mend}
use Rattle.lsm_cmd_repair.specs.declared.repair_fault.RepairFault.TheVariants.{
  Write as WriteFault,
}

-- `repaired tables T entries E level 6`
abbrev pub head_text : ℕ → ℕ → List ℕ
head_text tables entries = codes "repaired tables "
    ++ (decimal tables ++ (codes " entries " ++ (decimal entries ++ codes " level 6\n")))

-- `.ldb: refused 15 BadChecksum`
abbrev pub why_text : LeftOut → List ℕ
why_text l = codes ".ldb: refused "
    ++ (decimal (number_of l) ++ (codes " " ++ (name_of l ++ (10 ∷ []))))

-- `left out 000005.ldb: refused 15 BadChecksum`
abbrev pub left_text : LeftOut → List ℕ
left_text l = (codes "left out " ++ padded l.file) ++ why_text l

abbrev pub lefts_text : List LeftOut → List ℕ
lefts_text left = flat_map left_text left

abbrev pub repaired_text : ℕ → ℕ → List LeftOut → List ℕ
repaired_text tables entries left = head_text tables entries ++ lefts_text left

-- `note: 000007.log is not brought in, and may be older than the tables`
abbrev pub note_text : ℕ → List ℕ
note_text log = (codes "note: " ++ padded log)
    ++ codes ".log is not brought in, and may be older than the tables\n"

abbrev pub notes_text : List ℕ → List ℕ
notes_text logs = flat_map note_text logs

module _ {C M : Type 0} (folders : Ghosts C M) where
  -- The lock of the folder at this path was held alone.
  abbrev pub IsOpened : List ℕ → C → Type 0
  IsOpened path folder = IsFolderAt folders path (IsHeld Exclusive) folder

  -- It was not opened, or not locked.
  abbrev pub IsUnopened : List ℕ → RepairFault → Type 0
  IsUnopened path fault =
      ((e : DirectoryFault) × (fault ≡ Folder e) × IsFolderFault e)
      ⊎ ((e : DirectoryFault) × (fault ≡ Folder e)
      × ((folder : C) × IsFolderAt folders path (IsUnheld Exclusive e) folder))

module _ {C M : Type 0} (folders : Ghosts C M) (marks : mark.Ghosts M) where
  -- The database of the folder at the path was repaired.
  pub record RepairsTo (path : List ℕ) (tables entries : ℕ) (left : List LeftOut)
      (unsure : List ℕ) : Type 0 where
    pub folder : C
    pub last : C
    pub opened : IsOpened folders path folder
    pub repaired : RepairsOn folders marks folder last tables entries left unsure

  -- so it was; the lines of it were written, and a note on standard error for each log that may
  -- have come in before
  abbrev pub RepairsAt : List ℕ → (old new said_old said_new : Option (List ℕ)) → Type 0
  RepairsAt path old new said_old said_new =
      (tables : ℕ) × (entries : ℕ) × (left : List LeftOut) × (unsure : List ℕ)
      × RepairsTo path tables entries left unsure
      × Appends old new (repaired_text tables entries left)
      × Appends said_old said_new (notes_text unsure)

  -- it was not
  pub record FailsAt (path : List ℕ) (fault : MendFault) : Type 0 where
    pub folder : C
    pub last : C
    pub opened : IsOpened folders path folder
    pub refused : FailsOn folders marks folder last fault

  -- The folder was not opened, or its database not repaired, and nothing was written on the output;
  -- or it was, and the lines or the notes of it were not written. Memory may run out before.
  abbrev pub FailsToRepair : List ℕ → RepairFault → (old new : Option (List ℕ)) → Type 0
  FailsToRepair path fault old new =
      (Keeps old new × (IsUnopened folders path fault
      ⊎ ((e : MendFault) × (fault ≡ Mend e) × ((e ≡ OutOfMemory) ⊎ FailsAt path e))))
      ⊎ ((fault ≡ WriteFault) × ((tables : ℕ) × (entries : ℕ) × (left : List LeftOut)
      × (unsure : List ℕ) × RepairsTo path tables entries left unsure))
