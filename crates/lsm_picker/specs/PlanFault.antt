-- The refusals of a range plan: their numbers and names (this project's rule).
use Rattle.std.specs.Prelude.{ℕ, List, codes}
use Rattle.lsm_picker.specs.declared.plan_fault.PlanFault.{PlanFault}
use Rattle.lsm_picker.specs.declared.plan_fault.PlanFault.TheVariants.{OutOfMemory, BadLevel}

abbrev pub number_of : PlanFault → ℕ
number_of OutOfMemory = 1
number_of (BadLevel level) = 23

abbrev pub name_of : PlanFault → List ℕ
name_of OutOfMemory = codes "OutOfMemory"
name_of (BadLevel level) = codes "BadLevel"
