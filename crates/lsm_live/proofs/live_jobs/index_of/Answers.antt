use Rattle.std.proofs.Common.{◌≡◌, ◌∙◌}
use Rattle.lsm_live.specs.Booked.{Booked}
use Rattle.lsm_live.proofs.Elements.{each_more}
use Rattle.lsm_live.proofs.live_jobs.index_of.Goals as goal

pub loop-i-preserved : goal.loop-i-preserved
loop-i-preserved g c =
    each_more (λ (b : Booked). b.work.ticket ≡ c.args.ticket → ⊥) c.args.jobs.now c.loop-i.i c.index-jobs-i.result c.loop-i-test.true c.index-jobs-i.is c.loop-i.invariant
    (λ e. c.if-ticket.false (c.ticket.ensures ∙ e))
