use Rattle.lsm_pins.proofs.LawLemmas.{missed}
use Rattle.lsm_pins.proofs.laws.missed_is_held.Goals as goal

pub returns : goal.returns
returns c start s kept p publisher = missed s.words s.views kept p publisher
