use Rattle.lsm_admission.proofs.JudgedKept.{version_kept}
use Rattle.lsm_admission.proofs.laws.versions_keep_their_tables.Goals as goal

pub returns : goal.returns
returns c = version_kept
