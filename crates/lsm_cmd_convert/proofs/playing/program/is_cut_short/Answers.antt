use Rattle.std.proofs.Common.{◌≡◌, true, false, refl, rules}
use Rattle.lsm_script.specs.Scripts.{ends_list}
use Rattle.lsm_cmd_convert.proofs.PlayOutcomes.{cut_at, none_left, still_cut}
use Rattle.lsm_cmd_convert.proofs.playing.program.is_cut_short.Goals as goal

pub loop-reply-init : goal.loop-reply-init
loop-reply-init c = λ h. h

pub loop-reply-preserved : goal.loop-reply-preserved
loop-reply-preserved c =
    let goes_on : ends_list c.reply-item.result ≡ false = search rules in
    λ h. still_cut c.args.replies.now c.loop-reply.reply-index c.reply-item.result (search rules) c.reply-item.is goes_on (c.loop-reply.invariant h)

pub returns-then-ends_list : goal.returns-then-ends_list
returns-then-ends_list c =
    let ends : ends_list c.reply-item.result ≡ true = search rules in
    (λ _. cut_at c.args.replies.now c.loop-reply.reply-index c.reply-item.result (search rules) c.reply-item.is ends, λ _. refl)

pub returns : goal.returns
returns c = (λ never. absurd (cc), λ h. absurd (none_left c.args.replies.now c.loop-reply.reply-index (search rules) (c.loop-reply.invariant h)))
