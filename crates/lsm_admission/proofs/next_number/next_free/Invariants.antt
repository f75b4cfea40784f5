use Rattle.std.proofs.Common.{take}
use Rattle.lsm_journal.specs.Finding.{IsLeastFree}
use Rattle.lsm_admission.proofs.next_number.next_free.Given as goal

abbrev pub invariant-loop-number : goal.invariant-loop-number
invariant-loop-number l = IsLeastFree l.from (take l.number-index l.taken) l.next
