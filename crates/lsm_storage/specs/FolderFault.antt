-- What a refusal of a folder means to a shelf (this project's rule).
use Rattle.std.specs.Prelude.{ℕ, Ok, Err}
use Rattle.lsm_folder.specs.Calls.{Answer}
use Rattle.lsm_folder.specs.declared.folder_fault.FolderFault.{FolderFault}
use Rattle.lsm_folder.specs.declared.folder_fault.FolderFault.TheVariants as folder
use Rattle.lsm_shelf.specs.declared.shelf_fault.ShelfFault.{ShelfFault}
use Rattle.lsm_shelf.specs.declared.shelf_fault.ShelfFault.TheVariants.{OutOfMemory, Device}
use Rattle.lsm_shelf.specs.declared.shelf_fault.ShelfFault.TheVariants.{Missing, Taken}

-- of a call that needs no name
abbrev pub device_of : FolderFault → ShelfFault
device_of folder.OutOfMemory = OutOfMemory
device_of folder.Failed = Device
device_of folder.Missing = Device
device_of folder.Exists = Device

-- of a call on a file that must be there
abbrev pub missing_of : FolderFault → ShelfFault
missing_of folder.OutOfMemory = OutOfMemory
missing_of folder.Failed = Device
missing_of folder.Missing = Missing
missing_of folder.Exists = Device

-- of a call that makes the file of this number
abbrev pub taken_of : ℕ → FolderFault → ShelfFault
taken_of number folder.OutOfMemory = OutOfMemory
taken_of number folder.Failed = Device
taken_of number folder.Missing = Device
taken_of number folder.Exists = Taken number

-- Of a call that was to make a file durable, which was then asked to be removed with this answer:
-- where it could not be removed either, that is the device
abbrev pub undone_of : Answer → FolderFault → ShelfFault
undone_of (Ok v) fault = device_of fault
undone_of (Err other) fault = Device
