use Rattle.std.proofs.Common.{◌≡◌, ◌++◌, take}
use Rattle.std.specs.List.{flat_map}
use Rattle.lsm_script.specs.ReplyText.{reply_text}
use Rattle.lsm_text.specs.declared.form.Form.TheVariants.{Hex}
use Rattle.lsm_script.proofs.reply_text.push_replies.Given as goal

abbrev pub invariant-loop-reply : goal.invariant-loop-reply
invariant-loop-reply l = l.out.items ≡ l.initial.out.items ++ flat_map (reply_text Hex) (take l.reply-index l.replies)
