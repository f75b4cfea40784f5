use Rattle.lsm_picker.proofs.Opening.{job_is, job_opens}
use Rattle.lsm_picker.proofs.laws.plan_opens_its_job.Goals as goal

pub returns : goal.returns
returns c = λ v starts p ticket floor ranges is_move s q r. (job_is v p ticket floor ranges is_move r, job_opens v starts p ticket floor ranges is_move s q r)
