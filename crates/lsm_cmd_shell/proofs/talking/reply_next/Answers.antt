use Rattle.std.proofs.Common.{List, ℕ, refl, sym, subst, ◌∙◌}
use Rattle.lsm_script.specs.Steps.{stage}
use Rattle.lsm_cmd_shell.specs.Batching.{standing}
use Rattle.lsm_cmd_shell.specs.Talk.{IsReplied, Long, Spent}
use Rattle.lsm_cmd_shell.proofs.talking.reply_next.Goals as goal

pub returns-in-Line : goal.returns-in-Line
returns-in-Line g c = λ line is.
    let r = c.reply_to.ensures in (
      r.0,
      subst (λ (l : List ℕ). IsReplied g.S.Shelf.honest c.args.form l r.0 (standing (stage c.args.state.now c.args.desk.now c.args.shelf.now) c.args.begun.now)
          (standing (stage c.reply_to.new.state c.reply_to.new.desk c.reply_to.new.shelf) c.reply_to.new.begun)) (c.line.ensures ∙ sym (rw c.in-Line.is at is)) r.1,
      r.2,
    )

pub returns-in-TooLong : goal.returns-in-TooLong
returns-in-TooLong g c = λ line is. (_, Long (rw c.in-TooLong.is at is) refl refl, c.say_failed.ensures)

pub returns-in-NoMemory : goal.returns-in-NoMemory
returns-in-NoMemory g c = λ line is. (_, Spent refl refl, c.say_failed-in-NoMemory.ensures)
