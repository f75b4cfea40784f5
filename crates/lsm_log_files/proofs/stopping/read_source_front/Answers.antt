use Rattle.std.proofs.Common.{inr}
use Rattle.std.proofs.lemmas.Result.{err_from_is_err_and}
use Rattle.lsm_log_files.proofs.stopping.read_source_front.Goals as goal

pub returns-in_err-tail-clause-refused : goal.returns-in_err-tail-clause-refused
returns-in_err-tail-clause-refused g c =
    let p = err_from_is_err_and c.from_residual-in_err-tail.result
    c.from_residual-in_err-tail.ensures.1 in
    rw (p.1, p.2) (
      inr (inr record {
        shape = c.in_ok-shape.shape;
        torn = c.in_ok-shape.torn;
        has = c.in_ok-shape.ensures.found;
        numbers = c.in_ok-numbers.numbers.items;
        logs = c.in_ok-numbers.ensures;
        unread = rw c.deref.ensures.value at c.in_err-tail.ensures.refused;
      }),
      λ asked. c.in_err-tail.ensures.given,
    )
