use Rattle.lsm_manifest.proofs.ShapeLaws.{one_file_a_number}
use Rattle.lsm_manifest.proofs.shape.one_file_a_number.Goals as goal

pub returns : goal.returns
returns c = one_file_a_number
