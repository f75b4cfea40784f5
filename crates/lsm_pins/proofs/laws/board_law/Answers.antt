use Rattle.lsm_pins.proofs.LawLemmas.{law}
use Rattle.lsm_pins.proofs.laws.board_law.Goals as goal

pub returns : goal.returns
returns c start s kept p publisher = law s.words s.views kept p publisher
