-- The numbers and names of a builder's refusals in docs/FORMATS.md.
use Rattle.std.specs.Prelude.{ℕ, List, codes}
use Rattle.lsm_block.specs.declared.build_fault.BuildFault.{BuildFault}
use Rattle.lsm_block.specs.declared.build_fault.BuildFault.TheVariants.{OutOfMemory, TooLarge}

abbrev pub number_of : BuildFault → ℕ
number_of OutOfMemory = 1
number_of TooLarge = 39

abbrev pub name_of : BuildFault → List ℕ
name_of OutOfMemory = codes "OutOfMemory"
name_of TooLarge = codes "TooLarge"
