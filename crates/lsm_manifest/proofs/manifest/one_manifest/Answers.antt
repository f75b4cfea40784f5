use Rattle.lsm_manifest.proofs.ManifestLaws.{one_manifest}
use Rattle.lsm_manifest.proofs.manifest.one_manifest.Goals as goal

pub returns : goal.returns
returns c = one_manifest
