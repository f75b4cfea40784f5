use Rattle.lsm_pins.proofs.LawLemmas.{not_free}
use Rattle.lsm_pins.proofs.laws.held_is_not_free.Goals as goal

pub returns : goal.returns
returns c start s kept p publisher = not_free s.words s.views kept p publisher
