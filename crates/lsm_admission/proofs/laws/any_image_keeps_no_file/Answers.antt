use Rattle.lsm_admission.proofs.AnyImage.{no_file}
use Rattle.lsm_admission.proofs.laws.any_image_keeps_no_file.Goals as goal

pub returns : goal.returns
returns c = no_file
