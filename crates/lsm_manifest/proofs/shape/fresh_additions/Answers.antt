use Rattle.lsm_manifest.proofs.WholeEditLaws.{fresh_new}
use Rattle.lsm_manifest.proofs.shape.fresh_additions.Goals as goal

pub returns : goal.returns
returns c = fresh_new
