-- Which refusals a call on a folder can give (this project's rule).
use Rattle.lsm_folder.specs.declared.folder_fault.FolderFault.{FolderFault}
use Rattle.lsm_folder.specs.declared.folder_fault.FolderFault.TheVariants.{OutOfMemory, Failed}
use Rattle.lsm_folder.specs.declared.folder_fault.FolderFault.TheVariants.{Missing, Exists}

-- of a call that makes a file that must not be there
abbrev pub NotMissing : FolderFault → Type 0
NotMissing OutOfMemory = Unit {0}
NotMissing Failed = Unit {0}
NotMissing Missing = ⊥
NotMissing Exists = Unit {0}

-- of a call on a file that must be there
abbrev pub NotExists : FolderFault → Type 0
NotExists OutOfMemory = Unit {0}
NotExists Failed = Unit {0}
NotExists Missing = Unit {0}
NotExists Exists = ⊥

-- of a call for which no name is missing or taken
abbrev pub NotNamed : FolderFault → Type 0
NotNamed OutOfMemory = Unit {0}
NotNamed Failed = Unit {0}
NotNamed Missing = ⊥
NotNamed Exists = ⊥
