use Rattle.lsm_opening.proofs.TidyLaws.{loaded_reads}
use Rattle.lsm_opening.proofs.tidying.current_in.Goals as goal

pub returns-in-Ok-clause-reads : goal.returns-in-Ok-clause-reads
returns-in-Ok-clause-reads g c = loaded_reads _ _ _ _ c.in-Ok.ensures.noted

pub returns-in-Err-clause-reads : goal.returns-in-Err-clause-reads
returns-in-Err-clause-reads g c = loaded_reads _ _ _ _ c.in-Err.ensures.noted
