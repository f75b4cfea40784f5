use Rattle.std.proofs.Common.{inl, inr, refl}
use Rattle.lsm_opening.specs.declared.faults.writer_fault.WriterFault.TheVariants.{OutOfMemory}
use Rattle.lsm_directory.proofs.CallerLemmas.{keeps_same, stopped_by}
use Rattle.lsm_cmd_write.proofs.cleaning.program.run_clean.Goals as goal

pub returns-in-Err-clause-refused : goal.returns-in-Err-clause-refused
returns-in-Err-clause-refused g c = λ other. (c.refuse.ensures, (OutOfMemory, inl (inr refl, keeps_same _)))

pub returns-clause-refused : goal.returns-clause-refused
returns-clause-refused g c =
    stopped_by c.clean_at-done.result c.status_of.result _ c.status_of.ensures.ok c.status_of.ensures.err c.clean_at-done.ensures.refused
