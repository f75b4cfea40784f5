use Rattle.std.proofs.Common.{rules}
use Rattle.lsm_script.specs.ReplyText.{number_text}
use Rattle.lsm_script.proofs.TextLaws.{lines_all, lines_at}
use Rattle.lsm_script.proofs.reply_text.push_numbers.Goals as goal

pub loop-number-preserved : goal.loop-number-preserved
loop-number-preserved c =
    lines_at number_text c.args.numbers.now c.loop-number.number-index 0 c.args.out.now.items c.loop-number.out.items c.push_number.new.out.items
    (search rules) c.loop-number.invariant c.in_ok-push_number.ensures

pub returns : goal.returns
returns c = lines_all number_text c.args.numbers.now c.loop-number.number-index c.args.out.now.items c.loop-number.out.items (search rules) c.loop-number.invariant
