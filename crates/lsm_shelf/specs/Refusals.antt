-- Which refusals a call of a shelf may have (this project's rule).
use Rattle.lsm_shelf.specs.declared.shelf_fault.ShelfFault.{ShelfFault}
use Rattle.lsm_shelf.specs.declared.shelf_fault.ShelfFault.TheVariants.{OutOfMemory, Device}
use Rattle.lsm_shelf.specs.declared.shelf_fault.ShelfFault.TheVariants.{Missing, Taken}
use Rattle.lsm_shelf.specs.Asked.{Asked, Put, ReadAt, Load, Remove, ListTables, ReadManifest}
use Rattle.lsm_shelf.specs.Asked.{StartManifest, AppendManifest}
use Rattle.lsm_shelf.specs.Told.{NotTaken, NotNamed, NotDevice, TakenIs}

-- the kinds of refusal that a call may have, whatever the shelf
abbrev pub MayRefuse : Asked → ShelfFault → Type 0
MayRefuse (Put number image) fault = TakenIs number fault
MayRefuse (ReadAt number offset len) fault = NotTaken fault
MayRefuse (Load number) fault = NotTaken fault
MayRefuse (Remove number) fault = NotTaken fault
MayRefuse ListTables fault = NotNamed fault
MayRefuse ReadManifest fault = NotTaken fault
MayRefuse (StartManifest number bytes) fault = TakenIs number fault
MayRefuse (AppendManifest bytes) fault = NotTaken fault

-- those of a shelf in memory, where a load meets no device
abbrev pub MemoryRefuses : Asked → ShelfFault → Type 0
MemoryRefuses (Put number image) fault = TakenIs number fault
MemoryRefuses (ReadAt number offset len) fault = NotTaken fault
MemoryRefuses (Load number) fault = NotDevice fault
MemoryRefuses (Remove number) fault = NotTaken fault
MemoryRefuses ListTables fault = NotNamed fault
MemoryRefuses ReadManifest fault = NotTaken fault
MemoryRefuses (StartManifest number bytes) fault = TakenIs number fault
MemoryRefuses (AppendManifest bytes) fault = NotTaken fault

-- Memory ran out; or it is a refusal of this kind.
abbrev pub IsWantOr : (ShelfFault → Type 0) → ShelfFault → Type 0
IsWantOr Refused OutOfMemory = Unit {0}
IsWantOr Refused Device = Refused Device
IsWantOr Refused Missing = Refused Missing
IsWantOr Refused (Taken n) = Refused (Taken n)
