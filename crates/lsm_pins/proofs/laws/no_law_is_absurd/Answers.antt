use Rattle.lsm_pins.proofs.LawLemmas.{not_absurd}
use Rattle.lsm_pins.proofs.laws.no_law_is_absurd.Goals as goal

pub returns : goal.returns
returns c = not_absurd
