use Rattle.std.proofs.Common.{◌+◌, ap, ◌∙◌, arith}
use Rattle.lsm_shelf.specs.Told.{ForkedAtMost}
use Rattle.lsm_store.proofs.ForkLaws.{forking_more, more_at_most, on_err, one_more_fork}
use Rattle.lsm_store.proofs.forking.forks.Goals as goal

pub returns-in_err-push-clause-fewer : goal.returns-in_err-push-clause-fewer
returns-in_err-push-clause-fewer g c =
    let test = c.loop-test.true in
    let given = forking_more _ _ _ _ c.loop.invariant.just c.in_ok-fork.ensures.ok in
    on_err c.from_residual-in_err-push.result
    (ForkedAtMost c.args.count c.args.shelf.now c.fork.new.self)
    (more_at_most (c.loop.counter + 1) c.args.count _ _ (omega (arith, test)) given)

pub loop-preserved : goal.loop-preserved
loop-preserved g c =
    let before = c.loop.invariant in
    let test = c.loop-test.true in
    record {
      just = forking_more _ _ _ _ before.just c.in_ok-fork.ensures.ok;
      few = omega (arith, test);
      count = c.in_ok-push.ensures.len ∙ ap (λ n. n + 1) before.count;
      new = one_more_fork g.N.Naming.place c.args.shelf.now.forks c.loop.counter
          (c.loop.shelf.forks + 1) c.loop.forks.items c.push.new.self.items c.in_ok-fork.fork
          before.new c.in_ok-fork.ensures.fork
          (let given = before.just.forks in omega (arith, given)) c.in_ok-push.ensures.items;
      faults = c.in_ok-fork.ensures.counts.0 ∙ before.faults;
      misses = c.in_ok-fork.ensures.counts.1 ∙ before.misses;
    }
