use Rattle.std.proofs.Common.{◌+◌, get_or, sym, subst, ◌∙◌, arith}
use Rattle.std.proofs.lemmas.List.{get_or_default}
use Rattle.std.proofs.lemmas.Result.{err_from_is_err_and}
use Rattle.lsm_live.proofs.CallerLemmas.{has_at}
use Rattle.lsm_state.proofs.Removing.{AreGone, asked_or_not, gone_more, on_err, stopped_at}
use Rattle.lsm_state.proofs.collect.remove_all.Goals as goal

pub returns-in_err-remove-clause-err : goal.returns-in_err-remove-clause-err
returns-in_err-remove-clause-err g c =
    let ns = c.args.numbers.now in
    let was = c.args.shelf.now in
    let now = c.loop-number.shelf in
    let is = c.remove.new.self in
    let i = c.loop-number.number-index in
    on_err c.from_residual.result (stopped_at ns c.loop-number.removed.items was now is i c.loop-number-test.true c.loop-number.invariant.gone
    (asked_or_not c.remove.result c.in_err-remove.field-0.0 (get_or ns i 0) now is c.in_err-remove.was c.remove.ensures.told))

pub returns-in_err-remove-clause-asked : goal.returns-in_err-remove-clause-asked
returns-in_err-remove-clause-asked g c =
    let p = err_from_is_err_and c.from_residual.result c.from_residual.ensures.1 in
    let ns = c.args.numbers.now in
    let n = get_or ns c.loop-number.number-index 0 in
    rw (p.1, p.2) (
      n,
      has_at ns c.loop-number.number-index n c.loop-number-test.true (get_or_default ns c.loop-number.number-index 0 n c.loop-number-test.true),
      c.in_err-remove.ensures.refused,
    )

pub loop-number-preserved : goal.loop-number-preserved
loop-number-preserved g c =
    let ns = c.args.numbers.now in
    let was = c.args.shelf.now in
    let now = c.loop-number.shelf in
    let is = c.remove.new.self in
    let i = c.loop-number.number-index in record {
      gone = subst (λ l. AreGone ns l was is (i + 1)) (sym c.in-Ok.ensures.items) (gone_more ns c.loop-number.removed.items was now is i c.loop-number-test.true c.loop-number.invariant.gone c.in_ok-remove.ensures.told);
      counts = (c.in_ok-remove.ensures.counts.0 ∙ c.loop-number.invariant.counts.0, c.in_ok-remove.ensures.counts.1 ∙ c.loop-number.invariant.counts.1);
      len = (let longer = c.in-Ok.ensures.len in let before = c.loop-number.invariant.len in omega arith);
      room = (let wider = c.in-Ok.ensures.capacity in let before = c.loop-number.invariant.room in omega arith);
    }
