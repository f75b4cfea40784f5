use Rattle.std.proofs.Common.{◌∙◌, sym, arith}
use Rattle.lsm_script.specs.Steps.{stage}
use Rattle.lsm_script.proofs.Turns.{turn_end, turn_last, turn_more, turn_none}
use Rattle.lsm_script.proofs.script.answer_all.Goals as goal

pub loop-command-init : goal.loop-command-init
loop-command-init g c = record {
  so_far = turn_none g.S.Shelf.honest c.args.replies.now.items (stage c.args.state.now c.args.desk.now c.args.shelf.now) c.requires.none.0;
  len = c.requires.none.1;
  room = c.requires.room;
}

pub loop-command-preserved : goal.loop-command-preserved
loop-command-preserved g c = record {
  so_far = turn_more g.S.Shelf.honest c.args.commands.now c.loop-command.command-index c.command-item.result c.loop-command.replies.items c.push.new.self.items c.answer-reply.result
      (stage c.args.state.now c.args.desk.now c.args.shelf.now) _ _ c.loop-command-test.true c.command-item.is c.in-Ok.ensures.items c.loop-command.invariant.so_far c.answer-reply.ensures.step
      (sym c.ends_list-ends.ensures ∙ c.if-ends.false);
  len = (let longer = c.in-Ok.ensures.len in let before = c.loop-command.invariant.len in omega arith);
  room = (let wider = c.in-Ok.ensures.capacity in let before = c.loop-command.invariant.room in omega arith);
}

pub returns-then-ends : goal.returns-then-ends
returns-then-ends g c = record {
  replies = turn_last g.S.Shelf.honest c.args.commands.now c.loop-command.command-index c.command-item.result c.loop-command.replies.items c.push.new.self.items c.answer-reply.result
      (stage c.args.state.now c.args.desk.now c.args.shelf.now) _ _ c.loop-command-test.true c.command-item.is c.in-Ok.ensures.items c.loop-command.invariant.so_far c.answer-reply.ensures.step
      (sym c.ends_list-ends.ensures ∙ c.if-ends.true);
}

pub returns : goal.returns
returns g c = record {
  replies = turn_end g.S.Shelf.honest c.args.commands.now c.loop-command.command-index c.loop-command.replies.items (stage c.args.state.now c.args.desk.now c.args.shelf.now) _ c.loop-command-test.false
      c.loop-command.invariant.so_far;
}
