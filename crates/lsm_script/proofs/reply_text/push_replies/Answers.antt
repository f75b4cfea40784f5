use Rattle.std.proofs.Common.{rules}
use Rattle.lsm_script.specs.ReplyText.{reply_text}
use Rattle.lsm_text.specs.declared.form.Form.TheVariants.{Hex}
use Rattle.lsm_script.proofs.TextLaws.{lines_all, lines_more}
use Rattle.lsm_script.proofs.reply_text.push_replies.Goals as goal

pub loop-reply-preserved : goal.loop-reply-preserved
loop-reply-preserved c =
    lines_more (reply_text Hex) c.args.replies.now c.loop-reply.reply-index c.reply-item.result c.args.out.now.items c.loop-reply.out.items c.push_reply.new.out.items
    (search rules) c.reply-item.is c.loop-reply.invariant c.in_ok-push_reply.ensures

pub returns : goal.returns
returns c = lines_all (reply_text Hex) c.args.replies.now c.loop-reply.reply-index c.args.out.now.items c.loop-reply.out.items (search rules) c.loop-reply.invariant
