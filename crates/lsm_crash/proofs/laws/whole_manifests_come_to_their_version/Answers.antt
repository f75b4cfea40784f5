use Rattle.lsm_crash.proofs.Leading.{whole_comes}
use Rattle.lsm_crash.proofs.laws.whole_manifests_come_to_their_version.Goals as goal

pub returns : goal.returns
returns c = whole_comes
