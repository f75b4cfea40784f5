use Rattle.std.proofs.Common.{◌≡◌, ◌∙◌, ap}
use Rattle.lsm_merge.specs.Work.{Done, Work}
use Rattle.lsm_live.proofs.CallerLemmas.{each_more}
use Rattle.lsm_script.proofs.held.index_of_result.Goals as goal

pub loop-i-preserved : goal.loop-i-preserved
loop-i-preserved g c =
    each_more (λ (d : Done). d.work.ticket ≡ c.args.ticket → ⊥) c.args.results.now c.loop-i.i c.index-results-i.result c.loop-i-test.true c.index-results-i.is c.loop-i.invariant
    (λ e. c.if-ticket.false (c.ticket.ensures.ticket ∙ (ap (λ (w : Work). w.ticket) c.job.ensures.job ∙ e)))
