use Rattle.std.proofs.Common.{List, ◌++◌, ap, ◌∙◌}
use Rattle.std.specs.Prelude.{All, Option}
use Rattle.std.proofs.lemmas.List.Elements.{All-append, All-same}
use Rattle.lsm_shelf.specs.Told.{Told}
use Rattle.lsm_store.specs.Workers.{IsWorkersEnd}
use Rattle.lsm_store.specs.Working.{end_of}
use Rattle.lsm_store.specs.declared.worker_end.WorkerEnd.{WorkerEnd}
use Rattle.lsm_store.proofs.SeatLaws.{all_mapped}
use Rattle.lsm_store.proofs.background_workers.with_workers.Goals as goal

pub returns-in-Ok-with_workers_returning-clause-ends : goal.returns-in-Ok-with_workers_returning-clause-ends
returns-in-Ok-with_workers_returning-clause-ends g c =
    let IsEnd = (λ (e : WorkerEnd). IsWorkersEnd g.S.Shelf.honest e) in
    let came = c.in-Ok-with_workers_returning in
    let of_each : All IsEnd c.ends_of-ends.result.items = All-same IsEnd _ _ c.ends_of-ends.ensures.ends
    (all_mapped (λ (r : WorkerEnd × Option Told). r.0) IsEnd came.done.1.items came.ensures.ends) in
    All-same IsEnd _ _ c.with_gathered.ensures.ends
    (All-append IsEnd _ _ of_each c.with_gathered.ensures.each)

pub returns-in-Ok-with_workers_returning-clause-ended : goal.returns-in-Ok-with_workers_returning-clause-ended
returns-in-Ok-with_workers_returning-clause-ended g c =
    let came = c.in-Ok-with_workers_returning in
    record {
      returned = came.done.1.items;
      gathered = came.done.2;
      swept = came.done.3;
      ends_are = c.with_gathered.ensures.ends
          ∙ ap (λ (es : List WorkerEnd). es ++ end_of came.done.2) c.ends_of-ends.ensures.ends;
      are = came.ensures.beside;
    }
