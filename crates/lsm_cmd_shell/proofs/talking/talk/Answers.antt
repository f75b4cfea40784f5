use Rattle.std.proofs.Common.{None}
use Rattle.lsm_script.specs.Steps.{stage}
use Rattle.lsm_cmd_shell.specs.Batching.{standing}
use Rattle.lsm_cmd_shell.specs.Talk.{IsReplied}
use Rattle.lsm_cmd_shell.proofs.TalkLaws.{comes_to, goes_on, none_yet, spent}
use Rattle.lsm_cmd_shell.proofs.talking.talk.Goals as goal

pub loop-turn-init : goal.loop-turn-init
loop-turn-init g c = none_yet (IsReplied g.S.Shelf.honest c.args.form) c.args.bails c.args.lines.now.left (standing (stage c.args.state.now c.args.desk.now c.args.shelf.now) None) _

pub loop-turn-preserved : goal.loop-turn-preserved
loop-turn-preserved g c =
    goes_on (IsReplied g.S.Shelf.honest c.args.form) c.args.bails c.args.lines.now.left c.loop-turn.outcome c.judge.new.outcome c.loop-turn.lines c.take_turn-turn.new.lines
    (standing (stage c.args.state.now c.args.desk.now c.args.shelf.now) None) (standing (stage c.loop-turn.state c.loop-turn.desk c.loop-turn.shelf) c.loop-turn.begun) _ c.take_turn-turn.new.begun
    c.take_turn-turn.result c.judge.result _ _ _ c.loop-turn.invariant c.take_turn-turn.ensures.turn c.judge.ensures c.in_default.is

pub returns-in-Some : goal.returns-in-Some
returns-in-Some g c = record {
  talk = (
    c.take_turn-turn.new.begun,
    comes_to (IsReplied g.S.Shelf.honest c.args.form) c.args.bails c.args.lines.now.left c.loop-turn.outcome c.judge.new.outcome c.loop-turn.lines c.take_turn-turn.new.lines
        (standing (stage c.args.state.now c.args.desk.now c.args.shelf.now) None) (standing (stage c.loop-turn.state c.loop-turn.desk c.loop-turn.shelf) c.loop-turn.begun) _ c.take_turn-turn.new.begun
        c.take_turn-turn.result c.judge.result c.in-Some.end _ _ _ c.loop-turn.invariant c.take_turn-turn.ensures.turn c.judge.ensures c.in-Some.is,
  );
}

pub returns : goal.returns
returns g c = record {
  talk = (
    c.loop-turn.begun,
    spent (IsReplied g.S.Shelf.honest c.args.form) c.args.bails c.args.lines.now.left c.loop-turn.lines.left c.loop-turn.outcome (standing (stage c.args.state.now c.args.desk.now c.args.shelf.now) None) _ _ _ _ c.loop-turn.invariant,
  );
}
