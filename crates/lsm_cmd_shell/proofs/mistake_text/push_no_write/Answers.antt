use Rattle.std.proofs.Common.{codes}
use Rattle.lsm_cmd_shell.specs.MistakeText.{formed, instead_text, no_write_text}
use Rattle.lsm_cmd_shell.proofs.MistakeLaws.{last_of_two}
use Rattle.lsm_cmd_shell.proofs.mistake_text.push_no_write.Goals as goal

pub returns : goal.returns
unfolding no_write_text
returns c =
    last_of_two c.push_instead.result c.args.out.now.items c.push_formed.new.out.items c.push_instead.new.out.items (formed (codes " is neither KEY=VALUE nor KEY! ") c.args.form) (instead_text c.args.text)
    c.in_ok-push_formed.ensures c.push_instead.ensures
