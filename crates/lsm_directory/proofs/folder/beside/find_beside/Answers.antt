use Rattle.std.proofs.lemmas.Result.{err_from_is_err_and}
use Rattle.lsm_directory.proofs.LookLaws.{refused_later}
use Rattle.lsm_directory.proofs.folder.beside.find_beside.Goals as goal

pub returns-in_err-logs-clause-refused : goal.returns-in_err-logs-clause-refused
returns-in_err-logs-clause-refused g c =
    let p = err_from_is_err_and c.from_residual-in_err-logs.result
    c.from_residual-in_err-logs.ensures.1 in
    rw (p.1, p.2) (refused_later _ _ _ _ c.in_ok-names.ensures.looked c.in_err-logs.ensures.refused)
