-- The refusals of commands: their numbers and names (this project's rule).
use Rattle.std.specs.Prelude.{ℕ, List}
use Rattle.lsm_merge.specs.MergeFault as merge
use Rattle.lsm_state.specs.StateFault as state
use Rattle.lsm_script.specs.declared.command_fault.CommandFault.{CommandFault}
use Rattle.lsm_script.specs.declared.command_fault.CommandFault.TheVariants.{State, Merge}

abbrev pub number_of : CommandFault → ℕ
number_of (State fault) = state.number_of fault
number_of (Merge fault) = merge.number_of fault

abbrev pub name_of : CommandFault → List ℕ
name_of (State fault) = state.name_of fault
name_of (Merge fault) = merge.name_of fault
