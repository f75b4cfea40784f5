use Rattle.std.proofs.Common.{List, ℕ, subst}
use Rattle.std.proofs.lemmas.Result.{err_from_is_err_and}
use Rattle.lsm_manifest.specs.Edit.{IsEdit}
use Rattle.lsm_manifest.specs.EditReading.{edit_at}
use Rattle.lsm_manifest.specs.EditView as edit_view
use Rattle.lsm_journal.proofs.Loops.{edits_more, record_refused}
use Rattle.lsm_journal.proofs.recover.edits_of.Goals as goal

pub loop-record-preserved : goal.loop-record-preserved
loop-record-preserved c =
    edits_more c.args.records.now c.loop-record.record-index c.record-item.result c.loop-record.edits.items _ c.in_ok-edit.edit c.loop-record-test.true c.record-item.is c.loop-record.invariant
    (subst (λ (own : List ℕ). IsEdit own c.in_ok-edit.edit) c.as_slice.ensures c.in_ok-edit.ensures.found) c.in_ok-push.ensures.items

pub returns-in_err-edit-clause-refused : goal.returns-in_err-edit-clause-refused
returns-in_err-edit-clause-refused c =
    let p = err_from_is_err_and c.from_residual.result c.from_residual.ensures.1 in
    rw (p.1, p.2)
    (record_refused c.args.records.now c.loop-record.record-index c.record-item.result c.loop-record.edits.items c.in_err-edit.field-0.0 c.loop-record-test.true c.record-item.is c.loop-record.invariant
    (subst (λ (own : List ℕ). edit_view.Fails c.in_err-edit.field-0.0 (edit_at own)) c.as_slice.ensures c.in_err-edit.ensures.exact))

pub returns-in_err-push-clause-refused : goal.returns-in_err-push-clause-refused
returns-in_err-push-clause-refused c =
    let p = err_from_is_err_and c.from_residual-in_err-push.result c.from_residual-in_err-push.ensures.1 in
    rw (p.1, p.2)
    (record_refused c.args.records.now c.loop-record.record-index c.record-item.result c.loop-record.edits.items _ c.loop-record-test.true c.record-item.is c.loop-record.invariant tt)
