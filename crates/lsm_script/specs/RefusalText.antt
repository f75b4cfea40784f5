-- What is printed of the refusals of a command: this project's rule.
use Rattle.std.specs.Prelude.{ℕ, List}
use Rattle.lsm_refusals.specs.RefusalText.{merge_text, state_text}
use Rattle.lsm_script.specs.declared.command_fault.CommandFault.{CommandFault}
use Rattle.lsm_script.specs.declared.command_fault.CommandFault.TheVariants.{State, Merge}

-- `refused N Name ..`
abbrev pub refused_text : CommandFault → List ℕ
refused_text (State fault) = state_text fault
refused_text (Merge fault) = merge_text fault
