use Rattle.std.proofs.Common.{inl, refl}
use Rattle.std.proofs.lemmas.Result.{err_from_is_err_and}
use Rattle.lsm_opening.proofs.Looked.{looks_more, stopped_later}
use Rattle.lsm_opening.proofs.preparing.look.Goals as goal

pub returns-in_err-logs-clause-refused : goal.returns-in_err-logs-clause-refused
returns-in_err-logs-clause-refused g c =
    let p = err_from_is_err_and c.from_residual-in_err-logs.result c.from_residual-in_err-logs.ensures.1 in
    rw (p.1, p.2) (inl (c.in_err-logs.field-0.0, refl, stopped_later _ _ _ _ c.folder_names.ensures.looked c.in_err-logs.ensures.refused))

pub returns-in_err-logs-clause-looked : goal.returns-in_err-logs-clause-looked
returns-in_err-logs-clause-looked g c = looks_more _ _ _ c.folder_names.ensures.looked c.logs_for.ensures.looked

pub returns-clause-looked : goal.returns-clause-looked
returns-clause-looked g c = looks_more _ _ _ c.folder_names.ensures.looked c.logs_for.ensures.looked
