use Rattle.lsm_model.proofs.Ingests.{ingest_lawful, ingest_keeps_open}
use Rattle.lsm_model.proofs.laws.ingest_stays_lawful.Goals as goal

pub returns : goal.returns
returns c = record { lawful = ingest_lawful; jobs = ingest_keeps_open }
