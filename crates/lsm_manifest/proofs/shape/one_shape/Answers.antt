use Rattle.lsm_manifest.proofs.ShapeLaws.{one_shape}
use Rattle.lsm_manifest.proofs.shape.one_shape.Goals as goal

pub returns : goal.returns
returns c = one_shape
