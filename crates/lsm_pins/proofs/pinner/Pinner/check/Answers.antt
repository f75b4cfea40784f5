use Rattle.std.proofs.Common.{rules}
use Rattle.lsm_pins.proofs.PinSteps.{pin_checked_allowed}
use Rattle.lsm_pins.proofs.pinner.Pinner.check.Goals as goal

pub load-requires : goal.load-requires
load-requires c = (search rules, search rules, pin_checked_allowed c.deref.result.now.shared.key _ _ _ c.self.inside.knows.live)
