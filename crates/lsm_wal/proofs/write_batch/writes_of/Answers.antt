use Rattle.std.proofs.Common.{◌<◌, length, sym, ◌∙◌, arith}
use Rattle.std.proofs.lemmas.Bool.{eqb-true}
use Rattle.std.proofs.lemmas.Bool.Decides.{nat_tests}
use Rattle.std.proofs.lemmas.Result.{err_from_is_err_and}
use Rattle.lsm_wal.specs.Reading.{writes_at}
use Rattle.lsm_wal.proofs.WriteLoop.{goes_at_first, fails, goes_on, ends_empty, runs_out}
use Rattle.lsm_wal.proofs.write_batch.writes_of.Goals as goal

pub loop-init : goal.loop-init
loop-init c = rw c.new-writes.ensures.items (goes_at_first c.args.text.now)

pub returns-then-is_empty : goal.returns-then-is_empty
returns-then-is_empty c =
    rw c.of.ensures
    (ends_empty (writes_at (length c.args.text.now) c.args.text.now) (length c.args.text.now)
    c.loop.counter c.loop.writes.items c.loop.rest.now
    (eqb-true _ _ (sym c.is_empty.ensures ∙ c.if-is_empty.true)) c.loop.invariant)

pub returns-in_err-write : goal.returns-in_err-write
returns-in_err-write c =
    let p = err_from_is_err_and c.from_residual.result c.from_residual.ensures.1 in
    let some : 0 < length c.loop.rest.now = grind (arith, nat_tests) in
    rw (p.1, p.2) (fails c.in_err-write.field-0.0
    (writes_at (length c.args.text.now) c.args.text.now) (length c.args.text.now) c.loop.counter
    c.loop.writes.items c.loop.rest.now
    (omega arith) some c.loop.invariant c.in_err-write.ensures)

pub loop-preserved : goal.loop-preserved
loop-preserved c =
    let some : 0 < length c.loop.rest.now = grind (arith, nat_tests) in
    rw c.in_ok-push.ensures.items
    (goes_on (writes_at (length c.args.text.now) c.args.text.now) (length c.args.text.now)
    c.loop.counter c.loop.writes.items c.loop.rest.now c.in_ok-write.write
    c.in_ok-write.after.now
    (omega arith) some c.loop.invariant c.in_ok-write.ensures)

pub returns : goal.returns
returns c = rw c.of-2.ensures
    (runs_out (writes_at (length c.args.text.now) c.args.text.now) (length c.args.text.now)
    c.loop.counter c.loop.writes.items c.loop.rest.now (omega arith) c.loop.invariant)
