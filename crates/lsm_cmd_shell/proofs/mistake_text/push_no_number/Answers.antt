use Rattle.std.proofs.Common.{codes, decimal}
use Rattle.lsm_cmd_shell.specs.MistakeText.{between, no_number_text}
use Rattle.lsm_cmd_shell.specs.Mistakes.{most_of}
use Rattle.lsm_cmd_shell.proofs.MistakeLaws.{last_of_two}
use Rattle.lsm_cmd_shell.proofs.mistake_text.push_no_number.Goals as goal

pub returns : goal.returns
unfolding no_number_text
returns c =
    last_of_two c.push_decimal.result c.args.out.now.items c.push_want.new.out.items c.push_decimal.new.out.items (between (codes ": ") c.args.want (codes " is no number from 0 to ")) (decimal (most_of c.args.want))
    c.in_ok-push_want.ensures (rw c.most.ensures at c.push_decimal.ensures)
