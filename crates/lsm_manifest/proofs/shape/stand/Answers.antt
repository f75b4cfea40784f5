use Rattle.std.proofs.lemmas.Result.{err_from_is_err_and}
use Rattle.lsm_manifest.specs.Standing.{file_at}
use Rattle.lsm_manifest.proofs.StandingLaws.{tracks_none}
use Rattle.lsm_manifest.proofs.ReplayLaws.{innocent_none, applies_next, fails_at}
use Rattle.lsm_manifest.proofs.shape.stand.Goals as goal

pub loop-edit-init : goal.loop-edit-init
loop-edit-init c = (tracks_none (file_at c.new-standing.result) c.new-standing.ensures, innocent_none)

pub returns-in_err-apply-clause-err : goal.returns-in_err-apply-clause-err
returns-in_err-apply-clause-err c =
    let p = err_from_is_err_and c.from_residual.result c.from_residual.ensures.1 in
    let inv = c.loop-edit.invariant in
    rw (p.1, p.2) (fails_at c.args.edits.now c.loop-edit.edit-index c.edit-item.result c.in_err-apply.field-0.0 c.loop-edit-test.true c.edit-item.is inv.1 (c.in_err-apply.ensures.err _ inv.0))

pub loop-edit-preserved : goal.loop-edit-preserved
loop-edit-preserved c =
    let inv = c.loop-edit.invariant in
    applies_next c.args.edits.now c.loop-edit.edit-index c.edit-item.result (file_at c.apply.new.self) c.loop-edit-test.true c.edit-item.is inv.1 (c.in_ok-apply.ensures.ok _ inv.0)
