use Rattle.lsm_pins.proofs.HeldState.{outlives}
use Rattle.lsm_pins.proofs.laws.a_pin_outlives_its_version.Goals as goal

pub returns : goal.returns
returns c = outlives
