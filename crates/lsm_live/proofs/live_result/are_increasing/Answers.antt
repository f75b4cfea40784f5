use Rattle.std.proofs.Common.{◌-◌, length}
use Rattle.lsm_live.proofs.Results.{falls_at}
use Rattle.lsm_live.proofs.live_result.are_increasing.Goals as goal

pub returns-in-len1-up : goal.returns-in-len1-up
returns-in-len1-up c = (
  λ e. absurd (cc e),
  λ r. absurd (falls_at c.loop-rest.rest.now (length c.loop-rest.rest.now - 1) c.in-len1-up-tail.len_at_least c.if-first-second.true (c.loop-rest.invariant.from r)),
)
