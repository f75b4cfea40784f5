use Rattle.std.proofs.Common.{◌≡◌, ◌∙◌}
use Rattle.lsm_merge.specs.Work.{Work}
use Rattle.lsm_live.proofs.CallerLemmas.{each_more}
use Rattle.lsm_script.proofs.held.index_of_job.Goals as goal

pub loop-i-preserved : goal.loop-i-preserved
loop-i-preserved g c =
    each_more (λ (w : Work). w.ticket ≡ c.args.ticket → ⊥) c.args.jobs.now c.loop-i.i c.index-jobs-i.result c.loop-i-test.true c.index-jobs-i.is c.loop-i.invariant
    (λ e. c.if-ticket.false (c.ticket.ensures.ticket ∙ e))
