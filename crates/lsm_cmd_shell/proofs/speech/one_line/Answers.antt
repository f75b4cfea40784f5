use Rattle.std.proofs.Common.{sym}
use Rattle.lsm_text.proofs.CallerLemmas.{parts_take}
use Rattle.lsm_cmd_shell.proofs.SpeechLaws.{all_others}
use Rattle.lsm_cmd_shell.proofs.speech.one_line.Goals as goal

pub returns-in-Some : goal.returns-in-Some
returns-in-Some c =
    all_others c.in-Some.line.now
    (parts_take 10 c.args.text.now (c.in-Some.line.now, c.in-Some.field-0-1.now) (sym c.in-Some.ensures)).1
