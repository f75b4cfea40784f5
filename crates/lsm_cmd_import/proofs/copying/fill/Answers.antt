use Rattle.std.proofs.Common.{inl, inr, refl, arith}
use Rattle.std.proofs.lemmas.Result.{err_from_is_err_and}
use Rattle.lsm_shelf.specs.Stored.{Stored}
use Rattle.lsm_import.proofs.CallerLemmas.{writes_came}
use Rattle.lsm_cmd_import.proofs.copying.fill.Goals as goal

pub returns-in_err-before-clause-refused : goal.returns-in_err-before-clause-refused
returns-in_err-before-clause-refused g c =
    let p = err_from_is_err_and c.from_residual.result c.from_residual.ensures.1 in
    rw (p.1, p.2) (inl c.in_err-before.ensures.refused)

pub returns-in_err-copied-clause-refused : goal.returns-in_err-copied-clause-refused
returns-in_err-copied-clause-refused g c =
    let p = err_from_is_err_and c.from_residual-in_err-copied.result c.from_residual-in_err-copied.ensures.1 in
    rw (p.1, p.2) (inr (inl (c.in_err-copied.field-0.0, refl, rw c.usual.ensures at c.in_err-copied.ensures.refused)))

pub returns-clause-filled : goal.returns-clause-filled
returns-clause-filled g c =
    let Into = Stored g.row.T-Receipt.Denot (g.T.Shelf.is_of g.M.Naming.place) g.T.Receipt.TableReceipt.number g.T.Receipt.TableReceipt.image in
    let logs = c.in_ok-copied.ensures.logs in
    record {
      before = c.in_ok-before.before;
      judged = c.in_ok-before.ensures.judged;
      logs = logs;
      counted = (let w = writes_came Into c.args.logs c.args.copied c.in_ok-copied.copied c.requires.none logs in let s = c.in-Some.ensures in omega (arith, w, s));
    }
