use Rattle.std.proofs.Common.{◌≡◌, false, true, [], List, ℕ, length, refl, sym, ap, ◌∙◌, arith}
use Rattle.std.proofs.lemmas.Result.{err_from_is_err_and}
use Rattle.lsm_manifest.specs.Log.{may_follow}
use Rattle.lsm_manifest.specs.LogView.{type_byte}
use Rattle.lsm_manifest.specs.LogReading.{record_at}
use Rattle.lsm_manifest.proofs.LogLoop.{stops, fails, skips, misplaced, finishes, goes_on, runs_out, some_type}
use Rattle.lsm_manifest.proofs.log.next_record.Goals as goal

pub returns-in_err-at-clause-reads : goal.returns-in_err-at-clause-reads
returns-in_err-at-clause-reads c =
    let p = err_from_is_err_and c.from_residual.result c.from_residual.ensures.1 in
    rw (p.1, p.2) (fails c.in_err-at.field-0.0 (record_at (length c.args.text.now) c.args.total false [] c.args.text.now) (length c.args.text.now) c.loop.counter c.args.total c.loop.begun c.loop.whole.items c.loop.rest.now
    (omega arith) c.loop.invariant c.in_err-at.ensures.reads)

pub returns-in-End-clause-reads : goal.returns-in-End-clause-reads
returns-in-End-clause-reads c =
    let none = rw c.in-End.is at c.in_ok-at.ensures.reads in
    stops _ (length c.args.text.now) c.loop.counter c.args.total c.loop.begun c.loop.whole.items c.loop.rest.now (omega arith) c.loop.invariant (sym none)

pub loop-preserved-in-Skipped : goal.loop-preserved-in-Skipped
loop-preserved-in-Skipped c =
    let some = rw c.in-Skipped.is at c.in_ok-at.ensures.reads in
    let short = rw c.in-Skipped.is at c.in_ok-at.ensures.shorter in
    skips _ (length c.args.text.now) c.loop.counter c.args.total c.loop.begun c.loop.whole.items c.loop.rest.now 0 [] c.in-Skipped.after.now
    (omega arith) c.loop.invariant (sym some) refl short

pub returns-then-not-may_follow-clause-reads : goal.returns-then-not-may_follow-clause-reads
returns-then-not-may_follow-clause-reads c =
    let some = rw c.in-Fragment.is at c.in_ok-at.ensures.reads in
    let never : may_follow c.loop.begun c.loop.whole.items (type_byte c.in-Fragment.kind) ≡ false =
    ap (λ (x : List ℕ). may_follow c.loop.begun x (type_byte c.in-Fragment.kind)) (sym c.deref.ensures.value) ∙ sym c.may_follow.ensures ∙ c.if-not-may_follow.true in
    misplaced _ (length c.args.text.now) c.loop.counter c.args.total c.loop.begun c.loop.whole.items c.loop.rest.now (type_byte c.in-Fragment.kind) c.in-Fragment.body.now c.in-Fragment.after.now
    (omega arith) c.loop.invariant (sym some) (some_type c.in-Fragment.kind) never

pub returns-then-ends-clause-reads : goal.returns-then-ends-clause-reads
returns-then-ends-clause-reads c =
    let some = rw c.in-Fragment.is at c.in_ok-at.ensures.reads in
    let may : may_follow c.loop.begun c.loop.whole.items (type_byte c.in-Fragment.kind) ≡ true =
    ap (λ (x : List ℕ). may_follow c.loop.begun x (type_byte c.in-Fragment.kind)) (sym c.deref.ensures.value) ∙ sym c.may_follow.ensures ∙ c.if-not-may_follow.false in
    rw c.in_ok-extend_from_slice.ensures.items
    (finishes _ (length c.args.text.now) c.loop.counter c.args.total c.loop.begun c.loop.whole.items c.loop.rest.now (type_byte c.in-Fragment.kind) c.in-Fragment.body.now c.in-Fragment.after.now
    (omega arith) c.loop.invariant (sym some) (some_type c.in-Fragment.kind) may (sym c.ends.ensures ∙ c.if-ends.true))

pub loop-preserved : goal.loop-preserved
loop-preserved c =
    let some = rw c.in-Fragment.is at c.in_ok-at.ensures.reads in
    let short = rw c.in-Fragment.is at c.in_ok-at.ensures.shorter in
    let may : may_follow c.loop.begun c.loop.whole.items (type_byte c.in-Fragment.kind) ≡ true =
    ap (λ (x : List ℕ). may_follow c.loop.begun x (type_byte c.in-Fragment.kind)) (sym c.deref.ensures.value) ∙ sym c.may_follow.ensures ∙ c.if-not-may_follow.false in
    rw c.in_ok-extend_from_slice.ensures.items
    (goes_on _ (length c.args.text.now) c.loop.counter c.args.total c.loop.begun c.loop.whole.items c.loop.rest.now (type_byte c.in-Fragment.kind) c.in-Fragment.body.now c.in-Fragment.after.now
    (omega arith) c.loop.invariant (sym some) (some_type c.in-Fragment.kind) may (sym c.ends.ensures ∙ c.if-ends.false) short)

pub returns-clause-reads : goal.returns-clause-reads
returns-clause-reads c = runs_out _ (length c.args.text.now) c.loop.counter c.args.total c.loop.begun c.loop.whole.items c.loop.rest.now (omega arith) c.loop.invariant
