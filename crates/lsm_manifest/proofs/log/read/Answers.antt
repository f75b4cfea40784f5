use Rattle.std.proofs.Common.{length, sym, arith}
use Rattle.std.proofs.lemmas.Result.{err_from_is_err_and}
use Rattle.lsm_manifest.specs.LogReading.{records_at}
use Rattle.lsm_manifest.proofs.LogLoop.{stops_over, fails_over, goes_over, runs_out_over}
use Rattle.lsm_manifest.proofs.log.read.Goals as goal

pub returns-in_err-record : goal.returns-in_err-record
returns-in_err-record c =
    let p = err_from_is_err_and c.from_residual.result c.from_residual.ensures.1 in
    rw (p.1, p.2) (fails_over c.in_err-record.field-0.0 (records_at (length c.args.bytes.now) (length c.args.bytes.now) c.args.bytes.now) (length c.args.bytes.now) c.loop.counter (length c.args.bytes.now)
    c.loop.records.items c.loop.rest.now (omega arith) c.loop.invariant c.in_err-record.ensures.reads)

pub returns-in_default : goal.returns-in_default
returns-in_default c =
    let none = rw c.in_default.is at c.in_ok-record.ensures.reads in
    rw c.of.ensures
    (stops_over _ (length c.args.bytes.now) c.loop.counter (length c.args.bytes.now) c.loop.records.items c.loop.rest.now (omega arith) c.loop.invariant (sym none))

pub loop-preserved : goal.loop-preserved
loop-preserved c =
    let some = rw c.in-Some.is at c.in_ok-record.ensures.reads in
    let short = rw c.in-Some.is at c.in_ok-record.ensures.shorter in
    rw (c.in_ok-push.ensures.items, c.of-in-loop.ensures)
    (goes_over _ (length c.args.bytes.now) c.loop.counter (length c.args.bytes.now) c.loop.records.items c.loop.rest.now c.in-Some.record.items c.in-Some.after.now
    (omega arith) c.loop.invariant (sym some) short)

pub returns : goal.returns
returns c = rw c.of-2.ensures (runs_out_over _ (length c.args.bytes.now) c.loop.counter (length c.args.bytes.now) c.loop.records.items c.loop.rest.now (omega arith) c.loop.invariant)
