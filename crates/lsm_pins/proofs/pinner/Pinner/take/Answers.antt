use Rattle.std.proofs.Common.{rules}
use Rattle.lsm_pins.proofs.SeatSteps.{takes_told}
use Rattle.lsm_pins.proofs.pinner.Pinner.take.Goals as goal

pub join_seat-requires : goal.join_seat-requires
join_seat-requires c = let k = c.self.inside.knows in (search rules, search rules, search rules, search rules, takes_told c.deref.result.now.shared.key _ _ _ _ k.live k.reads c.requires.2)
