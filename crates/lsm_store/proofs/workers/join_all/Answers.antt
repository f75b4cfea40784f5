use Rattle.std.proofs.Common.{◌++◌, ◌∷◌, [], arith}
use Rattle.std.proofs.lemmas.List.Elements.{All-push, All-same}
use Rattle.lsm_shelf.specs.Told.{Told}
use Rattle.std.specs.Prelude.{Option}
use Rattle.lsm_store.specs.Workers.{IsWorkersEnd}
use Rattle.lsm_store.specs.Working.{Given, given_one}
use Rattle.lsm_store.specs.declared.worker_end.WorkerEnd.{WorkerEnd}
use Rattle.lsm_store.proofs.WorkingLaws.{joined_one_more, returned_more_in}
use Rattle.lsm_store.proofs.workers.join_all.Goals as goal

pub loop-thread-preserved : goal.loop-thread-preserved
loop-thread-preserved g c =
    let IsEnd = (λ (r : WorkerEnd × Option Told). IsWorkersEnd g.S.Shelf.honest r.0) in
    let before = c.loop-thread.invariant in
    let taken = c.in-Some.ensures.cases in
    let longer = c.in-Ok.ensures.len in
    let wider = c.in-Ok.ensures.capacity in
    let room = before.room in
    let all = before.all in
    let done = before.returned.0 in
    let last : Given = given_one c.in-Some.thread.picks.value c.in-Some.thread.to_the_end c.in-Some.thread.given.value in
    record {
      ends = All-same IsEnd _ _ c.in-Ok.ensures.items (All-push IsEnd _ c.join-back.result before.ends c.join-back.ensures.end);
      returned = (
        done ++ last ∷ [],
        joined_one_more (λ t. given_one t.picks.value t.to_the_end t.given.value) done c.loop-thread.threads.items c.pop.new.self.items c.in-Some.thread _ before.returned.1 c.in-Some.ensures.items,
        returned_more_in g.S.Shelf.honest (g.S.Shelf.refuses g.N.Naming.place) g.K.Invariant.keeps done c.loop-thread.returned.items c.push.new.self.items last c.join-back.result
            c.in-Ok.ensures.items before.returned.2 c.join-back.ensures.returned,
      );
      room = omega arith;
      all = omega arith;
    }
