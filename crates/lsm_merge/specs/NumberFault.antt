-- The refusals of a source of numbers: their numbers and names (this project's rule).
use Rattle.std.specs.Prelude.{◌≡◌, ℕ, List, codes}
use Rattle.lsm_merge.specs.declared.number_source.NumberFault.{NumberFault}
use Rattle.lsm_merge.specs.declared.number_source.NumberFault.TheVariants.{OutOfMemory}
use Rattle.lsm_merge.specs.declared.number_source.NumberFault.TheVariants.{UnknownTicket}
use Rattle.lsm_merge.specs.declared.number_source.NumberFault.TheVariants.{NumbersSpent}

abbrev pub number_of : NumberFault → ℕ
number_of OutOfMemory = 1
number_of (UnknownTicket ticket) = 45
number_of NumbersSpent = 46

abbrev pub name_of : NumberFault → List ℕ
name_of OutOfMemory = codes "OutOfMemory"
name_of (UnknownTicket ticket) = codes "UnknownTicket"
name_of NumbersSpent = codes "NumbersSpent"

-- a ticket that is unknown is this one
abbrev pub IsOfTicket : NumberFault → ℕ → Type 0
IsOfTicket OutOfMemory asked = Unit {0}
IsOfTicket (UnknownTicket ticket) asked = ticket ≡ asked
IsOfTicket NumbersSpent asked = Unit {0}
