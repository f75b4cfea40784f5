use Rattle.lsm_pins.proofs.LawLemmas.{some_state}
use Rattle.lsm_pins.proofs.laws.each_start_has_a_state.Goals as goal

pub returns : goal.returns
returns c = some_state
