-- What a fault says of an input: this project's rule.
use Rattle.std.specs.Prelude.{ℕ, List, Option, [], ◌++◌, codes, decimal, Some}
use Rattle.lsm_directory.specs.DirectoryFault.{table_meaning}
use Rattle.lsm_text.specs.declared.fault.Fault.{Fault}
use Rattle.lsm_text.specs.declared.fault.Fault.TheVariants.{Read, Write, BadLine, OutOfMemory}
use Rattle.lsm_text.specs.declared.fault.Fault.TheVariants.{Table, TooLarge, Log, Edit}

-- what a fault of an input may mean, as a line of its own
abbrev pub meaning : Fault → Option (List ℕ)
meaning Read = Some (codes "the input could not be read, or has more than 64 MiB\n")
meaning Write = Some []
meaning (BadLine i) = Some (codes "line "
    ++ (decimal i
    ++ codes " is not of the form KEY SEQ put VALUE or KEY SEQ del, in hex, or is out of order\n"))
meaning OutOfMemory = Some []
meaning (Table fault) = Some (table_meaning fault)
meaning TooLarge = Some []
meaning (Log fault) = Some []
meaning (Edit fault) = Some []
