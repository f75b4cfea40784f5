use Rattle.std.proofs.Common.{rules}
use Rattle.lsm_pins.proofs.PinSteps.{learns_allowed}
use Rattle.lsm_pins.proofs.pinner.Pinner.see.Goals as goal

pub load-found-requires : goal.load-found-requires
load-found-requires c = let k = c.self.inside.knows in (search rules, search rules, learns_allowed c.deref.result.now.shared.key _ _ _ k.live k.reads)
