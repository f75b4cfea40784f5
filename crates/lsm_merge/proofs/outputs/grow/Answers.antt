use Rattle.std.proofs.Common.{sym, subst}
use Rattle.lsm_merge.specs.Causes.{NamesTicket}
use Rattle.lsm_merge.specs.declared.merge_fault.MergeFault.{MergeFault}
use Rattle.lsm_merge.specs.Limits.{IsSizeFault}
use Rattle.lsm_merge.proofs.Limited.{size_of_build}
use Rattle.lsm_merge.proofs.Tickets.{names_of_build}
use Rattle.lsm_merge.proofs.outputs.grow.Goals as goal

pub returns-in-Err-clause-large : goal.returns-in-Err-clause-large
returns-in-Err-clause-large c = λ size. size_of_build c.number.result c.in-Err.fault _ c.in-Err.ensures.large (subst IsSizeFault c.of_build.ensures size)

pub returns-in-Err-clause-ticket : goal.returns-in-Err-clause-ticket
returns-in-Err-clause-ticket c = λ ticket. subst (λ (e : MergeFault). NamesTicket e ticket) (sym c.of_build.ensures) (names_of_build c.number.result c.in-Err.fault ticket)
