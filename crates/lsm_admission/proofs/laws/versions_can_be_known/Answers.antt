use Rattle.lsm_admission.proofs.ImagesOf.{version_known}
use Rattle.lsm_admission.proofs.laws.versions_can_be_known.Goals as goal

pub returns : goal.returns
returns c = version_known
