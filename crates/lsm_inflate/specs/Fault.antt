-- The numbers and names of refusals in docs/FORMATS.md, and the refusals of the crates below as
-- ones of this crate (this project's rule).
use Rattle.std.specs.Prelude.{ℕ, List, codes}
use Rattle.lsm_block.specs.declared.build_fault.BuildFault.{BuildFault}
use Rattle.lsm_block.specs.declared.build_fault.BuildFault.TheVariants as build
use Rattle.lsm_table.specs.declared.table_fault.TableFault.TheVariants.{OutOfMemory}
use Rattle.lsm_table.specs.Fault as table
pub use Rattle.lsm_table.specs.Fault.{of_block}
use Rattle.lsm_inflate.specs.declared.inflate_fault.InflateFault.{InflateFault}
use Rattle.lsm_inflate.specs.declared.inflate_fault.InflateFault.TheVariants.{Table, BadSnappy}
use Rattle.lsm_inflate.specs.declared.inflate_fault.InflateFault.TheVariants.{TooLarge}

abbrev pub number_of : InflateFault → ℕ
number_of (Table fault) = table.number_of fault
number_of (BadSnappy offset cause) = 60
number_of TooLarge = 39

abbrev pub name_of : InflateFault → List ℕ
name_of (Table fault) = table.name_of fault
name_of (BadSnappy offset cause) = codes "BadSnappy"
name_of TooLarge = codes "TooLarge"

abbrev pub of_build : BuildFault → InflateFault
of_build build.OutOfMemory = Table OutOfMemory
of_build build.TooLarge = TooLarge
