use Rattle.std.proofs.Common.{arith, inl, inr, refl}
use Rattle.std.proofs.lemmas.Result.{err_from_is_err_and}
use Rattle.lsm_preview.proofs.ViewLaws.{base_none, base_some}
use Rattle.lsm_preview.proofs.LooksLaws.{looks_none}
use Rattle.lsm_preview.proofs.base.base_of.Goals as goal

pub returns-then-count-eq0-clause-base : goal.returns-then-count-eq0-clause-base
returns-then-count-eq0-clause-base g c =
    base_none c.args.shape.now c.args.logs.items c.in_ok-base.base c.args.shelf.now (omega arith)
    c.in_ok-base.ensures.is

pub returns-then-count-eq0-clause-looks : goal.returns-then-count-eq0-clause-looks
returns-then-count-eq0-clause-looks g c = looks_none c.args.shelf.now

pub returns-clause-base : goal.returns-clause-base
returns-clause-base g c =
    base_some c.args.shape.now c.args.logs.items c.in_ok-numbers.numbers.items
    c.in_ok-base-2.base c.args.shelf.now c.taken.new.shelf (omega arith)
    c.in_ok-numbers.ensures.taken (rw c.deref.ensures.value at c.in_ok-base-2.ensures.stands)

pub returns-in_err-numbers-clause-refused : goal.returns-in_err-numbers-clause-refused
returns-in_err-numbers-clause-refused g c =
    let p = err_from_is_err_and c.from_residual-in_err-numbers.result
    c.from_residual-in_err-numbers.ensures.1 in
    rw (p.1, p.2) (inr ((omega arith), inl c.in_err-numbers.ensures.refused))
