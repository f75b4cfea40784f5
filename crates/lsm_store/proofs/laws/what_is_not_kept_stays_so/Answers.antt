use Rattle.lsm_store.proofs.KeptLaws.{kept_compacting, kept_ingest, kept_then}
use Rattle.lsm_store.proofs.laws.what_is_not_kept_stays_so.Goals as goal

pub returns-clause-compacting : goal.returns-clause-compacting
returns-clause-compacting g c was is lawful slots step = kept_compacting g.S.Shelf.honest was is lawful.law slots step

pub returns-clause-ingest : goal.returns-clause-ingest
returns-clause-ingest g c writes was is lawful slots step = kept_ingest g.S.Shelf.honest (g.S.Shelf.refuses g.N.Naming.place) writes was is lawful.law slots step

pub returns-clause-later : goal.returns-clause-later
returns-clause-later g c = kept_then
