use Rattle.lsm_manifest.proofs.ManifestLaws.{first_edits}
use Rattle.lsm_manifest.proofs.manifest.first_edits.Goals as goal

pub returns : goal.returns
returns c = first_edits
