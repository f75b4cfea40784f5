use Rattle.std.proofs.Common.{codes}
use Rattle.lsm_cmd_shell.specs.MistakeText.{between, column_text, instead_text, no_bytes_text, words_text}
use Rattle.lsm_cmd_shell.proofs.MistakeLaws.{last_of_four}
use Rattle.lsm_cmd_shell.proofs.mistake_text.push_no_bytes.Goals as goal

pub returns : goal.returns
unfolding no_bytes_text
returns c =
    last_of_four c.push_instead.result c.args.out.now.items c.push_want.new.out.items c.push_form.new.out.items c.push_column.new.out.items c.push_instead.new.out.items
    (between (codes ": ") c.args.want (codes " is no word ")) (words_text c.args.fault.form) (column_text c.args.fault) (instead_text c.args.text)
    c.in_ok-push_want.ensures c.in_ok-push_form.ensures c.in_ok-push_column.ensures c.push_instead.ensures
