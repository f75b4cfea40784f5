use Rattle.std.proofs.Common.{◌≡◌}
use Rattle.lsm_cmd_shell.proofs.AskLaws.{no_other}
use Rattle.lsm_cmd_shell.proofs.WordTexts.{texts}
use Rattle.lsm_cmd_shell.proofs.ask_line.other_in.Goals as goal

pub returns-clause-none : goal.returns-clause-none
returns-clause-none c =
    let one : c.deref.result.now ≡ c.in_ok-words.words.items = c.deref.ensures.value in
    let two : c.deref-2.result.now ≡ c.in_ok-words.words.items = c.deref-2.ensures.value in
    no_other c.args.form c.args.line.now (texts c.in_ok-words.words.items) c.in_ok-words.ensures (rw one at (rw c.in_default.is at c.in_ok-write.ensures.none)) (rw two at (rw c.in-None.is at c.in_ok-bounds.ensures.none))
