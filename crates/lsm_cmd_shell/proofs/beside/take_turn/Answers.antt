use Rattle.lsm_cmd_shell.specs.Beside.{IsRepliedBeside}
use Rattle.lsm_cmd_shell.proofs.TalkLaws.{turn_said}
use Rattle.lsm_cmd_shell.proofs.beside.take_turn.Goals as goal

pub reply_under_lock-said-requires-clause-kept : goal.reply_under_lock-said-requires-clause-kept
reply_under_lock-said-requires-clause-kept g c κs within =
    let asked = rw (c.in-Ok-Some.is, c.in-Ok-Some.field-0-is) at c.next_line.ensures.some in
    (asked.line, asked.is, c.requires.kept asked.line c.next_line.new.lines.left asked.takes)

pub returns-in-Ok-Some : goal.returns-in-Ok-Some
returns-in-Ok-Some g c =
    let asked = rw (c.in-Ok-Some.is, c.in-Ok-Some.field-0-is) at c.next_line.ensures.some in
    let r = c.reply_under_lock-said.ensures.replied asked.line asked.is in
    record {
      turn = turn_said (IsRepliedBeside g.S.Shelf.honest g.K.Invariant.keeps c.args.form) c.args.lines.now c.next_line.new.lines _ _ _ _ asked.line r.0 c.reply_under_lock-said.result c.answered.result asked.takes r.1 r.2
          c.answered.ensures.ok c.answered.ensures.err;
    }
