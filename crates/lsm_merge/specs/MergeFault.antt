-- The refusals of a merge: their numbers and names, and what stands behind them (this project's
-- rule).
use Rattle.std.specs.Prelude.{ℕ, List, codes}
use Rattle.lsm_block.specs.declared.build_fault.BuildFault.{BuildFault}
use Rattle.lsm_block.specs.declared.build_fault.BuildFault.TheVariants as build
use Rattle.lsm_shelf.specs.declared.shelf_fault.ShelfFault.{ShelfFault}
use Rattle.lsm_shelf.specs.declared.shelf_fault.ShelfFault.TheVariants as shelf
use Rattle.lsm_shelf.specs.ShelfFault as shelf_numbers
use Rattle.lsm_table.specs.declared.table_fault.TableFault.TheVariants as table
use Rattle.lsm_table.specs.declared.read_fault.ReadFault.{ReadFault}
use Rattle.lsm_table.specs.declared.read_fault.ReadFault.TheVariants as read
use Rattle.lsm_table.specs.ReadFault as read_numbers
use Rattle.lsm_merge.specs.declared.number_source.NumberFault.{NumberFault}
use Rattle.lsm_merge.specs.declared.number_source.NumberFault.TheVariants as numbers
use Rattle.lsm_merge.specs.declared.merge_fault.InputFault.{InputFault}
use Rattle.lsm_merge.specs.declared.merge_fault.InputFault.TheVariants.{Read, OutOfOrder}
use Rattle.lsm_merge.specs.declared.merge_fault.OutputFault.{OutputFault}
use Rattle.lsm_merge.specs.declared.merge_fault.OutputFault.TheVariants.{TooLarge, Shelf}
use Rattle.lsm_merge.specs.declared.merge_fault.MergeFault.{MergeFault}
use Rattle.lsm_merge.specs.declared.merge_fault.MergeFault.TheVariants.{OutOfMemory, ReadFailed}
use Rattle.lsm_merge.specs.declared.merge_fault.MergeFault.TheVariants.{PutFailed, UnknownTicket}
use Rattle.lsm_merge.specs.declared.merge_fault.MergeFault.TheVariants.{NumbersSpent}

abbrev pub input_number : InputFault → ℕ
input_number (Read fault) = read_numbers.number_of fault
input_number OutOfOrder = 8

abbrev pub output_number : OutputFault → ℕ
output_number TooLarge = 39
output_number (Shelf fault) = shelf_numbers.number_of fault

abbrev pub number_of : MergeFault → ℕ
number_of OutOfMemory = 1
number_of (ReadFailed number fault) = 35
number_of (PutFailed number fault) = 36
number_of (UnknownTicket ticket) = 45
number_of NumbersSpent = 46

abbrev pub name_of : MergeFault → List ℕ
name_of OutOfMemory = codes "OutOfMemory"
name_of (ReadFailed number fault) = codes "ReadFailed"
name_of (PutFailed number fault) = codes "PutFailed"
name_of (UnknownTicket ticket) = codes "UnknownTicket"
name_of NumbersSpent = codes "NumbersSpent"

-- want of memory is want of memory, whoever met it
abbrev pub of_read : ℕ → ReadFault → MergeFault
of_read number (read.Shelf shelf.OutOfMemory) = OutOfMemory
of_read number (read.Shelf fault) = ReadFailed number (Read (read.Shelf fault))
of_read number (read.Table table.OutOfMemory) = OutOfMemory
of_read number (read.Table fault) = ReadFailed number (Read (read.Table fault))

abbrev pub of_build : ℕ → BuildFault → MergeFault
of_build number build.OutOfMemory = OutOfMemory
of_build number build.TooLarge = PutFailed number TooLarge

abbrev pub of_put : ℕ → ShelfFault → MergeFault
of_put number shelf.OutOfMemory = OutOfMemory
of_put number fault = PutFailed number (Shelf fault)

abbrev pub of_numbers : NumberFault → MergeFault
of_numbers numbers.OutOfMemory = OutOfMemory
of_numbers (numbers.UnknownTicket ticket) = UnknownTicket ticket
of_numbers numbers.NumbersSpent = NumbersSpent
