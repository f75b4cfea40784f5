use Rattle.std.proofs.Common.{inl}
use Rattle.lsm_directory.proofs.CallerLemmas.{keeps_same}
use Rattle.lsm_cmd_write.proofs.ingesting.program.run_ingest.Goals as goal

pub returns-in-Standard-clause-refused : goal.returns-in-Standard-clause-refused
returns-in-Standard-clause-refused g c = rw c.in-Standard.is c.ingest_from.ensures.refused

pub returns-in-Ok-clause-refused : goal.returns-in-Ok-clause-refused
returns-in-Ok-clause-refused g c = rw (c.in-File.is, ← c.in-Ok.ensures.text) c.ingest_from-in-Ok.ensures.refused

pub returns-in-Err-clause-refused : goal.returns-in-Err-clause-refused
returns-in-Err-clause-refused g c = λ other. (c.refuse.ensures, inl (keeps_same _))
