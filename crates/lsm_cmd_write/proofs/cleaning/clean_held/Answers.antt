use Rattle.std.proofs.Common.{inl, inr, refl}
use Rattle.std.proofs.lemmas.Result.{err_from_is_err_and}
use Rattle.lsm_directory.proofs.CallerLemmas.{keeps_same}
use Rattle.lsm_cmd_write.proofs.cleaning.clean_held.Goals as goal

pub returns-in_err-kept-clause-refused : goal.returns-in_err-kept-clause-refused
returns-in_err-kept-clause-refused g c =
    let p = err_from_is_err_and c.from_residual.result c.from_residual.ensures.1 in
    rw (p.1, p.2) (inl (c.in_err-kept.ensures.refused, refl, keeps_same _))

pub returns-in_err-refuse_torn-clause-refused : goal.returns-in_err-refuse_torn-clause-refused
returns-in_err-refuse_torn-clause-refused g c =
    let p = err_from_is_err_and c.from_residual-in_err-refuse_torn.result c.from_residual-in_err-refuse_torn.ensures.1 in
    rw (p.1, p.2) (inr (_, _, _, c.in_ok-kept.ensures.kept, inl (c.in_err-refuse_torn.ensures.torn, refl, keeps_same _)))

pub returns-in-Ok-clause-cleaned : goal.returns-in-Ok-clause-cleaned
returns-in-Ok-clause-cleaned g c = (_, _, _, c.in_ok-kept.ensures.kept, c.in_ok-refuse_torn.ensures.accepted, c.in-Ok.ensures.cleared)

pub returns-clause-refused : goal.returns-clause-refused
returns-clause-refused g c = inr (_, _, _, c.in_ok-kept.ensures.kept, inr (c.in_ok-refuse_torn.ensures.accepted, c.in-Err.ensures.refused))
