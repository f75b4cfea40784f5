use Rattle.std.specs.Prelude.{Option}
use Rattle.std.proofs.lemmas.List.Elements.{All-same}
use Rattle.lsm_shelf.specs.Told.{Told}
use Rattle.lsm_store.specs.Workers.{IsWorkersEnd}
use Rattle.lsm_store.specs.declared.worker_end.WorkerEnd.{WorkerEnd}
use Rattle.lsm_store.proofs.SeatLaws.{all_mapped}
use Rattle.lsm_store.proofs.workers.run_workers_by.Goals as goal

pub returns-in-Ok-run_picking-clause-ends : goal.returns-in-Ok-run_picking-clause-ends
returns-in-Ok-run_picking-clause-ends g c =
    let IsEnd = (λ (e : WorkerEnd). IsWorkersEnd g.S.Shelf.honest e) in
    let returned = c.in-Ok-run_picking.returned.items in
    All-same IsEnd _ _ c.ends_of.ensures.ends
    (all_mapped (λ (r : WorkerEnd × Option Told). r.0) IsEnd returned
    c.in-Ok-run_picking.ensures.ends)

pub returns-in-Ok-run_picking-clause-ended : goal.returns-in-Ok-run_picking-clause-ended
returns-in-Ok-run_picking-clause-ended g c = (
  c.in-Ok-run_picking.returned.items,
  c.ends_of.ensures.ends,
  c.in-Ok-run_picking.ensures.returned,
)
