use Rattle.lsm_cmd_shell.specs.Talk.{IsReplied}
use Rattle.lsm_cmd_shell.proofs.TalkLaws.{turn_said}
use Rattle.lsm_cmd_shell.proofs.talking.take_turn.Goals as goal

pub returns-in-Ok-Some : goal.returns-in-Ok-Some
returns-in-Ok-Some g c =
    let asked = rw (c.in-Ok-Some.is, c.in-Ok-Some.field-0-is) at c.next_line.ensures.some in
    let r = c.reply_next-said.ensures asked.line asked.is in
    record {
      turn = turn_said (IsReplied g.S.Shelf.honest c.args.form) c.args.lines.now c.next_line.new.lines _ _ _ _ asked.line r.0 c.reply_next-said.result c.answered.result asked.takes r.1 r.2 c.answered.ensures.ok
          c.answered.ensures.err;
    }
