-- What a `clean` comes to, for the words of its command line: this project's rule. It is about a
-- folder that was opened at the path of these words.
use Rattle.std.specs.Prelude.{◌≡◌, ◌⊎◌, ℕ, List, Option}
use Rattle.std.specs.Io.KnownBytes.{Keeps}
use Rattle.lsm_folder.specs.declared.folder_calls.FolderCalls.{Ghosts}
use Rattle.lsm_folder.specs.declared.mark.Mark as mark
use Rattle.lsm_requests.specs.declared.clean_options.CleanOptions.{CleanOptions}
use Rattle.lsm_cmd_write.specs.Cleaning.{IsCleaned, IsUncleaned}
use Rattle.lsm_directory.specs.Folders.{IsFolderAt}
use Rattle.lsm_directory.specs.Holding.{IsFolderFault}
use Rattle.lsm_directory.specs.declared.faults.directory_fault.DirectoryFault.{DirectoryFault}
use Rattle.lsm_opening.specs.declared.faults.writer_fault.WriterFault.{WriterFault}
use Rattle.lsm_opening.specs.declared.faults.writer_fault.WriterFault.TheVariants.{OutOfMemory as NoMemory}
use Rattle.lsm_opening.specs.declared.faults.writer_fault.WriterFault.TheVariants.{Directory}

module _ {C M : Type 0} (folders : Ghosts C M) where
  -- The folder at the path was cleaned, between the moment when it was opened and this one.
  pub record IsCleanedAt (path : List ℕ) (options : CleanOptions) (old new : Option (List ℕ))
      : Type 0 where
    pub begun : C
    pub on : IsFolderAt folders path (λ first now. now ≡ first) begun
    pub ended : C
    pub same : folders.place ended ≡ folders.place begun
    pub done : IsCleaned folders options (folders.place begun) (folders.calls begun)
        (folders.calls ended) old new

-- the folder was not opened
abbrev pub IsUnopenedBy : WriterFault → Type 0
IsUnopenedBy e = (fault : DirectoryFault) × (e ≡ Directory fault) × IsFolderFault fault

module _ {C M : Type 0} (folders : Ghosts C M) (marks : mark.Ghosts M) where
  -- This stopped the cleaning of the folder at the path.
  pub record StopsAt (path : List ℕ) (options : CleanOptions) (fault : WriterFault)
      (old new : Option (List ℕ)) : Type 0 where
    pub begun : C
    pub on : IsFolderAt folders path (λ first now. now ≡ first) begun
    pub ended : C
    pub same : folders.place ended ≡ folders.place begun
    pub stopped : IsUncleaned folders marks options (folders.place begun) fault
        (folders.calls begun) (folders.calls ended) old new

  -- memory ran out, or the folder was not opened, and nothing was written; or that
  abbrev pub FailsToClean : List ℕ → CleanOptions → WriterFault → (old new : Option (List ℕ))
      → Type 0
  FailsToClean path options fault old new =
      ((IsUnopenedBy fault ⊎ (fault ≡ NoMemory)) × Keeps old new)
      ⊎ StopsAt path options fault old new
