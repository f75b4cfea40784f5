use Rattle.std.proofs.Common.{◌+◌, sym, ◌∙◌, subst, take}
use Rattle.lsm_picker.specs.Reservations.{IsLesserTicket}
use Rattle.lsm_picker.proofs.Conflicting.{IsFound, found_more, found_skip}
use Rattle.lsm_picker.proofs.conflicts.conflict.Goals as goal
use Rattle.lsm_picker.proofs.conflicts.conflict.Goals.{then-conflicts, else-conflicts}

pub loop-job-preserved : goal.loop-job-preserved
loop-job-preserved g c =
    let p = c.args.plan.now in
    let rs = c.args.reservations.now in
    let i = c.loop-job.job-index in
    let x = c.job-item.result in
    elim c.if-conflicts.branch [
      | then-conflicts w ↦ subst (IsFound p (take (i + 1) rs)) (sym w.least-is)
          (found_more p rs i x c.loop-job.least w.lesser_ticket.result c.loop-job-test.true c.job-item.is (sym c.conflicts.ensures ∙ w.if-conflicts.true)
          (subst (λ n. IsLesserTicket c.loop-job.least n w.lesser_ticket.result) w.ticket.ensures w.lesser_ticket.ensures) c.loop-job.invariant)
      | else-conflicts w ↦ subst (IsFound p (take (i + 1) rs)) (sym w.least-is)
          (found_skip p rs i x c.loop-job.least c.loop-job-test.true c.job-item.is (sym c.conflicts.ensures ∙ w.if-conflicts.false) c.loop-job.invariant)
    ]
