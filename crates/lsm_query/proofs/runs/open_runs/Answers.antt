use Rattle.std.proofs.lemmas.Result.{IfOk-weaker}
use Rattle.lsm_query.proofs.RunLaws.{runs_from_least}
use Rattle.lsm_query.proofs.runs.open_runs.Goals as goal

pub returns-clause-runs : goal.returns-clause-runs
returns-clause-runs g c = λ h. IfOk-weaker c.open_runs_from.result _ _ (λ v a. runs_from_least _ _ _ a) (c.open_runs_from.ensures.runs h)
