use Rattle.std.proofs.Common.{◌<◌, ◌≤◌, List, ℕ, subst, ap, sym, ◌∙◌, arith}
use Rattle.std.proofs.lemmas.Bool.Decides.{nat_tests}
use Rattle.std.proofs.lemmas.Result.{err_from_is_err_and}
use Rattle.lsm_wal.specs.WriteLog.{IsWriteBatch}
use Rattle.lsm_wal.specs.Reading.{batch_at}
use Rattle.lsm_wal.specs.View.{Fails}
use Rattle.lsm_wal.proofs.BatchLoop.{fails, misplaced, goes_on, ends, ends_are, goes_at_first}
use Rattle.lsm_wal.proofs.write_log.batches_of.Goals as goal

pub loop-record-init : goal.loop-record-init
loop-record-init c = rw c.new-batches.ensures.items (goes_at_first c.args.records.now)

pub returns-in_err-batch-clause-reads : goal.returns-in_err-batch-clause-reads
returns-in_err-batch-clause-reads c =
    let p = err_from_is_err_and c.from_residual.result c.from_residual.ensures.1 in
    rw (p.1, p.2)
    (fails c.in_err-batch.field-0.0 c.args.records.now c.loop-record.record-index
    c.loop-record.least c.loop-record.batches.items c.record-item.result c.loop-record-test.true
    c.record-item.is c.loop-record.invariant
    (subst (λ (own : List ℕ). Fails c.in_err-batch.field-0.0 (batch_at own)) c.as_slice.ensures
    c.in_err-batch.ensures.exact))

pub returns-then-batch-least-clause-reads : goal.returns-then-batch-least-clause-reads
returns-then-batch-least-clause-reads c =
    let read = ap batch_at (sym c.as_slice.ensures) ∙ c.in_ok-batch.ensures.exact in
    let less : c.in_ok-batch.batch.first < c.loop-record.least = grind (arith, nat_tests) in
    misplaced c.args.records.now c.loop-record.record-index c.loop-record.least
    c.loop-record.batches.items c.record-item.result c.in_ok-batch.batch c.loop-record-test.true
    c.record-item.is c.loop-record.invariant read less

pub loop-record-preserved : goal.loop-record-preserved
loop-record-preserved c =
    let read = ap batch_at (sym c.as_slice.ensures) ∙ c.in_ok-batch.ensures.exact in
    let spelled = subst (λ (own : List ℕ). IsWriteBatch own c.in_ok-batch.batch) c.as_slice.ensures
    c.in_ok-batch.ensures.found in
    let le : c.loop-record.least ≤ c.in_ok-batch.batch.first = grind (arith, nat_tests) in
    rw (c.in_ok-push.ensures.items, c.as_slice-in-loop-record.ensures)
    (goes_on c.args.records.now c.loop-record.record-index c.loop-record.least
    c.loop-record.batches.items c.record-item.result c.in_ok-batch.batch c.loop-record-test.true
    c.record-item.is c.loop-record.invariant
    read spelled le)

pub returns-clause-found : goal.returns-clause-found
returns-clause-found c =
    rw c.of.ensures (ends_are c.args.records.now c.loop-record.record-index c.loop-record.least
    c.loop-record.batches.items (omega arith) c.loop-record.invariant)

pub returns-clause-reads : goal.returns-clause-reads
returns-clause-reads c =
    rw c.of.ensures (ends c.args.records.now c.loop-record.record-index c.loop-record.least
    c.loop-record.batches.items (omega arith) c.loop-record.invariant)
