-- The refusals of a check: their numbers and names (this project's rule).
use Rattle.std.specs.Prelude.{ℕ, List, None, codes}
use Rattle.lsm_table.specs.declared.read_fault.ReadFault.TheVariants.{Table}
use Rattle.lsm_table.specs.declared.table_fault.TableFault.TheVariants.{OutOfMemory}
use Rattle.lsm_table.specs.ReadFault as read
use Rattle.lsm_table.specs.Told.{Told}
use Rattle.lsm_verify.specs.declared.check_fault.CheckFault.{CheckFault}
use Rattle.lsm_verify.specs.declared.check_fault.CheckFault.TheVariants.{Read, DoubleFile, Overlap}
use Rattle.lsm_verify.specs.declared.check_fault.CheckFault.TheVariants.{WrongRange, AgeOrder}

abbrev pub number_of : CheckFault → ℕ
number_of (Read file fault) = read.number_of fault
number_of (DoubleFile number) = 30
number_of (Overlap level) = 31
number_of (WrongRange number) = 32
number_of (AgeOrder user) = 33

abbrev pub name_of : CheckFault → List ℕ
name_of (Read file fault) = read.name_of fault
name_of (DoubleFile number) = codes "DoubleFile"
name_of (Overlap level) = codes "Overlap"
name_of (WrongRange number) = codes "WrongRange"
name_of (AgeOrder user) = codes "AgeOrder"

abbrev pub out_of_memory : CheckFault
out_of_memory = Read None (Table OutOfMemory)

-- a refusal of the shelf comes only with a count that rose
abbrev pub CheckCounted : CheckFault → Told → Told → Type 0
CheckCounted (Read file fault) old new = read.ReadCounted fault old new
CheckCounted (DoubleFile number) old new = Unit {0}
CheckCounted (Overlap level) old new = Unit {0}
CheckCounted (WrongRange number) old new = Unit {0}
CheckCounted (AgeOrder user) old new = Unit {0}
