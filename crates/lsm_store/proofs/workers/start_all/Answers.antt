use Rattle.std.proofs.Common.{sym, ◌∙◌, arith}
use Rattle.std.proofs.Common.{Bool}
use Rattle.lsm_store.specs.Working.{given_each, given_one}
use Rattle.lsm_store.specs.declared.picks.Picks.{Picks}
use Rattle.lsm_store.proofs.WorkingLaws.{given_last, same_given, started_none, started_one_more}
use Rattle.lsm_store.proofs.workers.start_all.Goals as goal

pub loop-shelf-preserved : goal.loop-shelf-preserved
loop-shelf-preserved g c =
    let before = c.loop-shelf.invariant in
    let taken = c.in-Some.ensures.cases in
    let longer = c.in-Ok.ensures.len in
    let wider = c.in-Ok.ensures.capacity in
    let room = before.room in
    let all = before.all in
    let p : Picks = c.args.picks.now in
    let b : Bool = c.args.bell.now.to_the_end in
    let its = same_given _ _ _ _ _ _ c.start-thread.ensures.picks c.start-thread.ensures.to_the_end c.start-thread.ensures.given in
    record {
      given = started_one_more (λ t. given_one t.picks.value t.to_the_end t.given.value) (given_each p b c.loop-shelf.shelves.items) (given_each p b c.pop.new.self.items) c.loop-shelf.threads.items
          c.push.new.self.items (given_one p b c.in-Some.shelf) c.start-thread.result _ before.given (given_last p b _ _ _ c.in-Some.ensures.items) c.in-Ok.ensures.items its;
      room = omega arith;
      all = omega arith;
    }

pub loop-shelf-init : goal.loop-shelf-init
loop-shelf-init g c =
    let none = c.requires.none in
    let room = c.requires.room in
    record {
      given = started_none (λ t. given_one t.picks.value t.to_the_end t.given.value) c.args.threads.items (given_each c.args.picks.now c.args.bell.now.to_the_end c.args.shelves.items) (sym c.args.threads.ok.0 ∙ none);
      room = omega arith;
      all = omega arith;
    }
