use Rattle.std.proofs.Common.{length, sym, ◌∙◌, arith}
use Rattle.std.proofs.lemmas.Bool.{eqb-true}
use Rattle.std.proofs.lemmas.Bool.Decides.{nat_tests}
use Rattle.std.proofs.lemmas.Result.{err_from_is_err_and}
use Rattle.lsm_manifest.specs.EditReading.{fields_at}
use Rattle.lsm_manifest.specs.EditView.{field_of}
use Rattle.lsm_manifest.specs.DraftView.{draft_of}
use Rattle.lsm_manifest.proofs.EditLoop.{reads_at_first, reads_on, reads_fail, reads_end, reads_out}
use Rattle.lsm_manifest.proofs.edit.read.Goals as goal

pub loop-init : goal.loop-init
loop-init c = reads_at_first c.args.text.now (draft_of c.new-draft.result) c.new-draft.ensures

pub returns-then-is_empty : goal.returns-then-is_empty
returns-then-is_empty c =
    rw c.finish.ensures
    (reads_end _ (length c.args.text.now) c.loop.counter (draft_of c.loop.draft) c.loop.rest.now (eqb-true _ _ (sym c.is_empty.ensures ∙ c.if-is_empty.true)) c.loop.invariant)

pub returns-in_err-field : goal.returns-in_err-field
returns-in_err-field c =
    let p = err_from_is_err_and c.from_residual.result c.from_residual.ensures.1 in
    rw (p.1, p.2) (reads_fail c.in_err-field.field-0.0 (fields_at (length c.args.text.now) c.args.text.now) (length c.args.text.now) c.loop.counter (draft_of c.loop.draft) c.loop.rest.now
    (omega arith) (grind (arith, nat_tests)) c.loop.invariant c.in_err-field.ensures)

pub loop-preserved : goal.loop-preserved
loop-preserved c =
    reads_on (fields_at (length c.args.text.now) c.args.text.now) (length c.args.text.now) c.loop.counter (draft_of c.loop.draft) _ c.loop.rest.now (field_of c.in_ok-field.field) c.in_ok-field.after.now
    (omega arith) (grind (arith, nat_tests)) c.loop.invariant c.in_ok-field.ensures c.in_ok-put.ensures

pub returns : goal.returns
returns c = rw c.finish-2.ensures (reads_out _ (length c.args.text.now) c.loop.counter (draft_of c.loop.draft) c.loop.rest.now (omega arith) c.loop.invariant)
