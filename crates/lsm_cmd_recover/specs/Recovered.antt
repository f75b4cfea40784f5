-- What a `recover` comes to, for the path of its command line, and what comes before a command that
-- is to recover first: this project's rule. It is about a folder that was opened at that path, and
-- about a shelf on its place; that these are the run's own is to be read.
use Rattle.std.specs.Prelude.{◌≡◌, ◌⊎◌, ℕ, Bool, List, [], ◌∷◌, ◌++◌, Option, codes, decimal}
use Rattle.lsm_text.specs.Printing.{Begins}
use Rattle.lsm_log_files.specs.Stops.{left_text}
use Rattle.std.specs.Io.KnownBytes.{Appends, Keeps}
use Rattle.lsm_folder.specs.declared.folder_calls.FolderCalls.{Ghosts}
use Rattle.lsm_folder.specs.declared.mark.Mark as mark
use Rattle.lsm_directory.specs.Folders.{IsFolderAt}
use Rattle.lsm_directory.specs.Holding.{IsFolderFault}
use Rattle.lsm_directory.specs.declared.faults.directory_fault.DirectoryFault.{DirectoryFault}
use Rattle.lsm_directory.specs.declared.folder.folder_file.FolderFile.{FolderFile}
use Rattle.lsm_opening.specs.Preparing.{IsPrepared, IsUnprepared, plainly}
use Rattle.lsm_opening.specs.declared.prepared.Start.{Start}
use Rattle.lsm_opening.specs.declared.prepared.Start.TheVariants.{Begin}
use Rattle.lsm_opening.specs.declared.faults.writer_fault.WriterFault.{WriterFault}
use Rattle.lsm_opening.specs.declared.faults.writer_fault.WriterFault.TheVariants.{Directory}
use Rattle.lsm_requests.specs.declared.ingest_options.IngestOptions.{IngestOptions}
use Rattle.lsm_recovery.specs.Recovered.{FailsTo, RecoversBy}
use Rattle.lsm_recovery.specs.declared.bring_fault.BringFault.{BringFault}
use Rattle.lsm_recovery.specs.declared.bring_fault.BringFault.TheVariants.{OutOfMemory, Folder}
use Rattle.lsm_recovery.specs.declared.brought.Brought.{Brought}
use Rattle.lsm_cmd_recover.specs.declared.recover_fault.RecoverFault.{RecoverFault}
use Rattle.lsm_cmd_recover.specs.declared.recover_fault.RecoverFault.TheVariants.{Logs}
use Rattle.lsm_cmd_recover.specs.declared.recover_fault.RecoverFault.TheVariants.{
  Write as WriteFault,
}

-- `logs L entries E rest B`
abbrev pub brought_text : Brought → List ℕ
brought_text b = codes "logs "
    ++ (decimal b.logs ++ (codes " entries " ++ (decimal b.entries ++ (codes " rest "
    ++ (decimal b.rest ++ (10 ∷ []))))))

-- logs are looked at, and a database may be begun where `begins` says so
abbrev pub seeing_logs : (begins : Bool) → IngestOptions
seeing_logs begins = record plainly { begins = begins }

module _ {C M : Type 0} (folders : Ghosts C M) where
  -- The lock of the folder at this path was held alone; it was looked at with these options, its
  -- names lead to this start, and these files of it may be logs.
  abbrev pub IsReady : IngestOptions → List ℕ → Start → List FolderFile → C → Type 0
  IsReady options path start files folder =
      IsFolderAt folders path (IsPrepared options start files) folder

  -- It was not opened, or not locked and looked at; or memory ran out.
  abbrev pub IsUnready : IngestOptions → List ℕ → BringFault → Type 0
  IsUnready options path fault =
      (fault ≡ OutOfMemory)
      ⊎ (((e : DirectoryFault) × (fault ≡ Folder (Directory e)) × IsFolderFault e)
      ⊎ ((e : WriterFault) × (fault ≡ Folder e)
      × ((folder : C) × IsFolderAt folders path (IsUnprepared options e) folder)))

module _ {C M : Type 0} (folders : Ghosts C M) (marks : mark.Ghosts M) (to_first_fault : Bool) where
  -- The logs of the folder at the path came into its database, whole or to the first fault.
  pub record RecoversTo (options : IngestOptions) (path : List ℕ) (brought : Brought)
      : Type 0 where
    pub start : Start
    pub files : List FolderFile
    pub folder : C
    pub left : C
    pub ready : IsReady folders options path start files folder
    pub recovered : RecoversBy folders marks to_first_fault files folder left brought

  -- So it was; what was left out was told on standard error, and the line of it was written.
  abbrev pub RecoversAt : List ℕ → (old new said_old said_new : Option (List ℕ)) → Type 0
  RecoversAt path old new said_old said_new = (brought : Brought)
      × RecoversTo plainly path brought × Appends said_old said_new (left_text brought.stop)
      × Appends old new (brought_text brought)

  -- they did not
  pub record FailsAt (options : IngestOptions) (path : List ℕ) (fault : BringFault)
      : Type 0 where
    pub start : Start
    pub files : List FolderFile
    pub folder : C
    pub left : C
    pub ready : IsReady folders options path start files folder
    pub refused : FailsTo folders marks to_first_fault files folder left fault

  -- the folder was not opened, or the writes did not come in
  abbrev pub IsNotRecovered : IngestOptions → List ℕ → BringFault → Type 0
  IsNotRecovered options path fault =
      IsUnready folders options path fault ⊎ FailsAt options path fault

  -- So it was, and nothing was written on the output; or they came in, and what is told of it was
  -- not written.
  abbrev pub FailsToRecover : List ℕ → RecoverFault → (old new : Option (List ℕ)) → Type 0
  FailsToRecover path (Logs fault) old new = Keeps old new × IsNotRecovered plainly path fault
  FailsToRecover path WriteFault old new = (brought : Brought) × RecoversTo plainly path brought

  -- ---- before another command

  -- In the folder at the path a database is to be begun.
  pub record IsBare (options : IngestOptions) (path : List ℕ) : Type 0 where
    pub number : ℕ
    pub files : List FolderFile
    pub folder : C
    pub ready : IsReady folders options path (Begin number) files folder

  -- It has no database yet; or the logs of the one that is there came in. What was left out was
  -- told on standard error, as far as that could be written.
  abbrev pub ComesFirst : Bool → List ℕ → (said_old said_new : Option (List ℕ)) → Type 0
  ComesFirst begins path said_old said_new =
      (IsBare (seeing_logs begins) path × Keeps said_old said_new)
      ⊎ ((brought : Brought) × RecoversTo (seeing_logs begins) path brought
      × Begins said_old said_new (left_text brought.stop))

  -- They did not come in.
  abbrev pub FailsFirst : Bool → List ℕ → BringFault → Type 0
  FailsFirst begins = IsNotRecovered (seeing_logs begins)
