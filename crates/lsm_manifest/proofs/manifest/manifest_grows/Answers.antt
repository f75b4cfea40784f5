use Rattle.lsm_manifest.proofs.ManifestLaws.{none_spelled, grown, torn}
use Rattle.lsm_manifest.proofs.manifest.manifest_grows.Goals as goal

pub returns-clause-none : goal.returns-clause-none
returns-clause-none c = none_spelled

pub returns-clause-grown : goal.returns-clause-grown
returns-clause-grown c = grown

pub returns-clause-torn : goal.returns-clause-torn
returns-clause-torn c = torn
