use Rattle.std.proofs.Common.{refl, inl, inr}
use Rattle.lsm_cmd_shell.proofs.BadLines.{its_mistake}
use Rattle.lsm_cmd_shell.proofs.replying.say_bad.Goals as goal

pub returns-in-Ok-Some : goal.returns-in-Ok-Some
returns-in-Ok-Some g c =
    let said = c.say_mistake.ensures in
    let is = rw c.in-Ok-Some.field-0-is at c.in-Ok-Some.ensures.some in
    (said.0, its_mistake c.args.form c.args.line.now c.in-Ok-Some.mistake said.0 is said.1, said.2)

pub returns-in-Ok-None : goal.returns-in-Ok-None
returns-in-Ok-None g c =
    let none = rw c.in-Ok-None.field-0-is at c.in-Ok-None.ensures.none in
    (_, inl (inr (none, refl)), c.say_failed.ensures)
