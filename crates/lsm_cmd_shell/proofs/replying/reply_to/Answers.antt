use Rattle.lsm_cmd_shell.specs.Talk.{Obeyed}
use Rattle.lsm_cmd_shell.proofs.BadLines.{bad_or_spent}
use Rattle.lsm_cmd_shell.proofs.replying.reply_to.Goals as goal

pub returns-in-Ok-Some : goal.returns-in-Ok-Some
returns-in-Ok-Some g c =
    let said = c.obey.ensures in
    let ask = rw c.in-Ok-Some.field-0-is at c.in-Ok-Some.ensures.some in
    (said.0, Obeyed c.in-Ok-Some.ask ask said.1, said.2)

pub returns-in-Ok-None : goal.returns-in-Ok-None
returns-in-Ok-None g c =
    let said = c.say_bad.ensures in
    let none = rw c.in-Ok-None.field-0-is at c.in-Ok-None.ensures.none in
    (said.0, bad_or_spent g.S.Shelf.honest c.args.form c.args.line.now said.0 _ none c.requires said.1, said.2)
