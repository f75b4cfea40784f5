use Rattle.lsm_codec.specs.Lists.{Has}
use Rattle.lsm_model.proofs.Plans.{plan_opens}
use Rattle.lsm_model.proofs.laws.plan_opens_its_job.Goals as goal

pub returns : goal.returns
returns c = λ v starts. plan_opens v (Has starts)
