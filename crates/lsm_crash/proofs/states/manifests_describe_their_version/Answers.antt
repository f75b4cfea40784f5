use Rattle.lsm_crash.proofs.Forms.{recorded_comes, recorded_describes}
use Rattle.lsm_crash.proofs.states.manifests_describe_their_version.Goals as goal

pub returns-clause-comes : goal.returns-clause-comes
returns-clause-comes c = recorded_comes

pub returns-clause-describes : goal.returns-clause-describes
returns-clause-describes c = recorded_describes
