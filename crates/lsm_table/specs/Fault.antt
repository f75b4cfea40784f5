-- The numbers and names of refusals in docs/FORMATS.md, and a block's refusal as one of its table.
use Rattle.std.specs.Prelude.{ℕ, List, codes}
use Rattle.lsm_block.specs.declared.fault.BlockFault.{BlockFault}
use Rattle.lsm_block.specs.declared.fault.BlockFault.TheVariants as block
use Rattle.lsm_table.specs.declared.table_fault.TableFault.{TableFault}
use Rattle.lsm_table.specs.declared.table_fault.TableFault.TheVariants.{OutOfMemory, BadRestarts}
use Rattle.lsm_table.specs.declared.table_fault.TableFault.TheVariants.{BadEntry, OutOfOrder}
use Rattle.lsm_table.specs.declared.table_fault.TableFault.TheVariants.{ShortFile, BadMagic}
use Rattle.lsm_table.specs.declared.table_fault.TableFault.TheVariants.{BadHandle, BadChecksum}
use Rattle.lsm_table.specs.declared.table_fault.TableFault.TheVariants.{Compressed, BadBlockType}
use Rattle.lsm_table.specs.declared.table_fault.TableFault.TheVariants.{BadIndex}

abbrev pub number_of : TableFault → ℕ
number_of OutOfMemory = 1
number_of BadRestarts = 6
number_of (BadEntry offset) = 7
number_of (OutOfOrder offset) = 8
number_of ShortFile = 12
number_of BadMagic = 13
number_of BadHandle = 14
number_of (BadChecksum offset) = 15
number_of (Compressed kind) = 16
number_of (BadBlockType kind) = 17
number_of BadIndex = 18

abbrev pub name_of : TableFault → List ℕ
name_of OutOfMemory = codes "OutOfMemory"
name_of BadRestarts = codes "BadRestarts"
name_of (BadEntry offset) = codes "BadEntry"
name_of (OutOfOrder offset) = codes "OutOfOrder"
name_of ShortFile = codes "ShortFile"
name_of BadMagic = codes "BadMagic"
name_of BadHandle = codes "BadHandle"
name_of (BadChecksum offset) = codes "BadChecksum"
name_of (Compressed kind) = codes "Compressed"
name_of (BadBlockType kind) = codes "BadBlockType"
name_of BadIndex = codes "BadIndex"

abbrev pub of_block : BlockFault → TableFault
of_block block.OutOfMemory = OutOfMemory
of_block block.BadRestarts = BadRestarts
of_block (block.BadEntry offset) = BadEntry offset
of_block (block.OutOfOrder offset) = OutOfOrder offset
