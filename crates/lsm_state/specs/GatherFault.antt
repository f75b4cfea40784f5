-- The refusals of a gather: their numbers and names (this project's rule).
use Rattle.std.specs.Prelude.{ℕ, List}
use Rattle.lsm_merge.specs.MergeFault as merge
use Rattle.lsm_state.specs.StateFault as state
use Rattle.lsm_state.specs.declared.gather_fault.GatherFault.{GatherFault}
use Rattle.lsm_state.specs.declared.gather_fault.GatherFault.TheVariants.{Merge, State}

abbrev pub number_of : GatherFault → ℕ
number_of (State fault) = state.number_of fault
number_of (Merge fault) = merge.number_of fault

abbrev pub name_of : GatherFault → List ℕ
name_of (State fault) = state.name_of fault
name_of (Merge fault) = merge.name_of fault
