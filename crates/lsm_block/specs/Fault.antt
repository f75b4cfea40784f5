-- The numbers and names of refusals in docs/FORMATS.md.
use Rattle.std.specs.Prelude.{ℕ, Bool, true, false, List, codes}
use Rattle.lsm_block.specs.declared.fault.BlockFault.{BlockFault}
use Rattle.lsm_block.specs.declared.fault.BlockFault.TheVariants.{OutOfMemory, BadRestarts}
use Rattle.lsm_block.specs.declared.fault.BlockFault.TheVariants.{BadEntry, OutOfOrder}

abbrev pub number_of : BlockFault → ℕ
number_of OutOfMemory = 1
number_of BadRestarts = 6
number_of (BadEntry offset) = 7
number_of (OutOfOrder offset) = 8

abbrev pub name_of : BlockFault → List ℕ
name_of OutOfMemory = codes "OutOfMemory"
name_of BadRestarts = codes "BadRestarts"
name_of (BadEntry offset) = codes "BadEntry"
name_of (OutOfOrder offset) = codes "OutOfOrder"

-- whether it says that memory ran out
abbrev pub is_memory : BlockFault → Bool
is_memory OutOfMemory = true
is_memory _ = false
