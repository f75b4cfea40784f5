use Rattle.std.proofs.Common.{[], ◌∷◌, codes, decimal}
use Rattle.lsm_cmd_shell.specs.MistakeText.{word_text, wrong_text}
use Rattle.lsm_cmd_shell.proofs.MistakeLaws.{four}
use Rattle.lsm_cmd_shell.proofs.mistake_text.push_word.Goals as goal

pub returns : goal.returns
unfolding word_text
returns c =
    four c.args.out.now.items c.extend_from_slice.new.self.items c.push_decimal.new.out.items c.push_wrong.new.out.items c.push.new.self.items
    (codes "bad line: word ") (decimal c.args.number) (wrong_text c.args.wrong) (10 ∷ [])
    c.in_ok-extend_from_slice.ensures.items c.in_ok-push_decimal.ensures c.in_ok-push_wrong.ensures c.in_ok-push.ensures.items
