use Rattle.lsm_bulk_load.proofs.CallerLemmas.{kept_compacting}
use Rattle.lsm_cmd_bench.proofs.running.run_beside.Goals as goal

pub with_workers-run-requires-clause-kept : goal.with_workers-run-requires-clause-kept
with_workers-run-requires-clause-kept g c κs within = kept_compacting g.S.Shelf.honest g.O.Origin.keeps g.O.Origin.found c.requires.workers
