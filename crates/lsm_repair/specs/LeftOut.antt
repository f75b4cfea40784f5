-- The number and the name in docs/FORMATS.md of why a table is left out (this project's rule).
use Rattle.std.specs.Prelude.{ℕ, List}
use Rattle.lsm_inflate.specs.Fault as packed
use Rattle.lsm_repair.specs.declared.left_out.LeftOut.{LeftOut}

abbrev pub number_of : LeftOut → ℕ
number_of left = packed.number_of left.fault

abbrev pub name_of : LeftOut → List ℕ
name_of left = packed.name_of left.fault
