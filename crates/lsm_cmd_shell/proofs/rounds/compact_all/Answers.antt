use Rattle.std.proofs.Common.{arith}
use Rattle.lsm_script.specs.Steps.{stage}
use Rattle.lsm_cmd_shell.proofs.RoundLaws.{collected, endless, one_round_more, refused, uncollected}
use Rattle.lsm_cmd_shell.proofs.rounds.compact_all.Goals as goal

pub loop-count-preserved : goal.loop-count-preserved
loop-count-preserved g c =
    let round = rw c.in-Ok-true.is at c.take_round.ensures.round in
    one_round_more g.S.Shelf.honest c.loop-count.count (stage c.args.state.now c.args.desk.now c.args.shelf.now) (stage c.loop-count.state c.loop-count.desk c.loop-count.shelf)
    (stage c.take_round.new.state c.take_round.new.desk c.take_round.new.shelf) c.loop-count.invariant (round c.in-Ok-true.field-0-test)

pub returns-in-Ok-false : goal.returns-in-Ok-false
returns-in-Ok-false g c =
    let H = g.S.Shelf.honest in
    let start = stage c.args.state.now c.args.desk.now c.args.shelf.now in
    let last = stage c.loop-count.state c.loop-count.desk c.loop-count.shelf in
    let idle = stage c.take_round.new.state c.take_round.new.desk c.take_round.new.shelf in
    let end = stage c.try_to-swept.new.state c.try_to-swept.new.desk c.try_to-swept.new.shelf in
    let none = (rw c.in-Ok-false.is at c.take_round.ensures.none) c.in-Ok-false.field-0-test in
    record {
      ok = collected H c.loop-count.count start last idle end c.try_to-swept.result c.counted.result c.loop-count.invariant none c.try_to-swept.ensures.ok c.counted.ensures.ok c.counted.ensures.err;
      err = uncollected H c.loop-count.count start last idle end c.try_to-swept.result c.counted.result c.loop-count.invariant none c.try_to-swept.ensures.err c.counted.ensures.ok
          c.counted.ensures.err;
    }

pub returns-in-Err-clause-err : goal.returns-in-Err-clause-err
returns-in-Err-clause-err g c =
    refused g.S.Shelf.honest c.loop-count.count c.in-Err.fault (stage c.args.state.now c.args.desk.now c.args.shelf.now) (stage c.loop-count.state c.loop-count.desk c.loop-count.shelf)
    (stage c.take_round.new.state c.take_round.new.desk c.take_round.new.shelf) c.loop-count.invariant (rw c.in-Err.is at c.take_round.ensures.err)

pub returns-clause-err : goal.returns-clause-err
returns-clause-err g c =
    endless g.S.Shelf.honest c.loop-count.count (stage c.args.state.now c.args.desk.now c.args.shelf.now) (stage c.loop-count.state c.loop-count.desk c.loop-count.shelf) c.loop-count.invariant (omega (arith, c.loop-count-test.false))
