use Rattle.lsm_bulk_load.proofs.MarkLaws.{even_out, fact_out, kept_compacting}
use Rattle.lsm_bulk_load.proofs.beside.load_all.Goals as goal

pub with_workers-run-requires-clause-kept : goal.with_workers-run-requires-clause-kept
with_workers-run-requires-clause-kept g c κs within = kept_compacting g.S.Shelf.honest g.O.Origin.keeps g.O.Origin.found c.requires.workers

pub returns-in-Ok-clause-kept : goal.returns-in-Ok-clause-kept
returns-in-Ok-clause-kept g c = fact_out g.O.Origin.keeps g.O.Origin.found c.into_state.result c.into_state.ensures.kept

pub returns-in-Ok-clause-even : goal.returns-in-Ok-clause-even
returns-in-Ok-clause-even g c = even_out g.O.Origin.keeps g.O.Origin.found c.into_state.result c.into_state.ensures.kept

pub returns-in-Err-clause-kept : goal.returns-in-Err-clause-kept
returns-in-Err-clause-kept g c = fact_out g.O.Origin.keeps g.O.Origin.found c.into_state-in-Err.result c.into_state-in-Err.ensures.kept

pub returns-in-Err-clause-even : goal.returns-in-Err-clause-even
returns-in-Err-clause-even g c = even_out g.O.Origin.keeps g.O.Origin.found c.into_state-in-Err.result c.into_state-in-Err.ensures.kept
