use Rattle.lsm_picker.proofs.Opening.{input_in}
use Rattle.lsm_picker.proofs.laws.inputs_are_of_the_version.Goals as goal

pub returns : goal.returns
returns c = λ v p ticket floor ranges is_move F s h. input_in v p F s h
