use Rattle.std.proofs.lemmas.Result.{err_from_is_err_and}
use Rattle.lsm_table.proofs.CheckLaws.{fails_whole}
use Rattle.lsm_table.proofs.OpenLaws.{fails_opening}
use Rattle.lsm_table.proofs.check.judge.Goals as goal

pub returns-in_err-index-clause-exact : goal.returns-in_err-index-clause-exact
returns-in_err-index-clause-exact c =
    let p = err_from_is_err_and c.from_residual.result c.from_residual.ensures.1 in
    rw (p.1, p.2) (fails_whole c.in_err-index.field-0.0 c.args.file.now (fails_opening c.in_err-index.field-0.0 c.args.file.now c.in_err-index.ensures.whole))
