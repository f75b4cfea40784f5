use Rattle.std.proofs.Common.{inl, refl}
use Rattle.std.proofs.lemmas.Result.{err_from_is_err_and}
use Rattle.lsm_opening.proofs.Looked.{stopped_later}
use Rattle.lsm_opening.proofs.TidyLaws.{looks_read, on_err, reads_more}
use Rattle.lsm_opening.proofs.preparing.look_and_tidy.Goals as goal

pub returns-in_err-prepared-clause-reads : goal.returns-in_err-prepared-clause-reads
returns-in_err-prepared-clause-reads g c = on_err c.from_residual.result _ (looks_read _ _ c.look.ensures.looked)

pub returns-in_err-tidy_for-clause-refused : goal.returns-in_err-tidy_for-clause-refused
returns-in_err-tidy_for-clause-refused g c =
    let p = err_from_is_err_and c.from_residual-in_err-tidy_for.result c.from_residual-in_err-tidy_for.ensures.1 in
    rw (p.1, p.2) (inl (c.in_err-tidy_for.field-0.0, refl, stopped_later _ _ _ _ c.look.ensures.looked c.in_err-tidy_for.ensures.refused))

pub returns-in_err-tidy_for-clause-reads : goal.returns-in_err-tidy_for-clause-reads
returns-in_err-tidy_for-clause-reads g c =
    on_err c.from_residual-in_err-tidy_for.result _ (reads_more _ _ _ (looks_read _ _ c.look.ensures.looked) c.in_err-tidy_for.ensures.reads)

pub returns-clause-prepared : goal.returns-clause-prepared
returns-clause-prepared g c = (_, c.in_ok-prepared.ensures.prepared, c.in_ok-tidy_for.ensures.tidied)
