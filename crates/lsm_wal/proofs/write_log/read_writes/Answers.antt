use Rattle.std.proofs.Common.{◌≡◌, ℕ, List, Result, Ok, subst}
use Rattle.std.proofs.lemmas.Result.{err_from_is_err_and}
use Rattle.lsm_manifest.specs.LogReading.{log_at}
use Rattle.lsm_wal.specs.declared.write_log_fault.WriteLogFault.{WriteLogFault}
use Rattle.lsm_wal.specs.declared.write_batch.WriteBatch.{WriteBatch}
use Rattle.lsm_wal.specs.WriteLog.{AreBatches}
use Rattle.lsm_wal.specs.Reading.{batches_at, log_writes_at}
use Rattle.lsm_wal.specs.View.{Fails}
use Rattle.lsm_wal.proofs.BatchLoop.{log_fails, at_log, read_log}
use Rattle.lsm_wal.proofs.LogLaws.{log_only, batches_only, found_only}
use Rattle.lsm_wal.proofs.write_log.read_writes.Goals as goal

abbrev Batches : Type 0
Batches = Result (List WriteBatch) WriteLogFault

pub returns-in_err-batches-in-Ok-clause-only : goal.returns-in_err-batches-in-Ok-clause-only
returns-in_err-batches-in-Ok-clause-only c batches rest is =
    let p = err_from_is_err_and c.from_residual.result c.from_residual.ensures.1 in
    let f = c.in_err-batches-in-Ok.field-0.0 in
    let log = c.in-Ok.log in
    let bad = subst (λ (rs : List (List ℕ)). Fails f (batches_at 0 rs)) c.as_slice.ensures
    c.in_err-batches-in-Ok.ensures.reads in
    rw (p.1, p.2) (batches_only f is.records log.records rest log.rest batches
    (c.in-Ok.ensures.only is.records rest is.log) bad is.spelled)

pub returns-in_err-batches-in-Ok-clause-exact : goal.returns-in_err-batches-in-Ok-clause-exact
unfolding log_writes_at
returns-in_err-batches-in-Ok-clause-exact c =
    let p = err_from_is_err_and c.from_residual.result c.from_residual.ensures.1 in
    let f = c.in_err-batches-in-Ok.field-0.0 in
    let log = c.in-Ok.log in
    let bad = subst (λ (rs : List (List ℕ)). Fails f (batches_at 0 rs)) c.as_slice.ensures
    c.in_err-batches-in-Ok.ensures.reads in
    rw (p.1, p.2) (at_log f (log_at c.args.bytes.now) log.records log.rest c.in-Ok.ensures.exact
    bad)

pub returns-in_ok-batches-in-Ok-clause-only : goal.returns-in_ok-batches-in-Ok-clause-only
returns-in_ok-batches-in-Ok-clause-only c batches rest is =
    let log = c.in-Ok.log in
    let got = c.in_ok-batches-in-Ok.batches in
    let found = subst (λ (rs : List (List ℕ)). AreBatches 0 rs got) c.as_slice.ensures
    c.in_ok-batches-in-Ok.ensures.found in
    found_only is.records log.records rest log.rest batches got
    (c.in-Ok.ensures.only is.records rest is.log) found is.spelled

pub returns-in_ok-batches-in-Ok-clause-exact : goal.returns-in_ok-batches-in-Ok-clause-exact
unfolding log_writes_at
returns-in_ok-batches-in-Ok-clause-exact c =
    let log = c.in-Ok.log in
    let got = c.in_ok-batches-in-Ok.batches in
    let reads = subst (λ (rs : List (List ℕ)). batches_at 0 rs ≡ Ok got) c.as_slice.ensures
    c.in_ok-batches-in-Ok.ensures.reads in
    read_log (log_at c.args.bytes.now) log.records log.rest got c.in-Ok.ensures.exact reads

pub returns-in-Err-clause-only : goal.returns-in-Err-clause-only
returns-in-Err-clause-only c batches rest is =
    rw c.of.ensures (log_only c.in-Err.fault is.records rest batches
    (c.in-Err.ensures.only is.records rest is.log) is.spelled)

pub returns-in-Err-clause-exact : goal.returns-in-Err-clause-exact
unfolding log_writes_at
returns-in-Err-clause-exact c =
    rw c.of.ensures (log_fails c.in-Err.fault (log_at c.args.bytes.now) c.in-Err.ensures.exact)
