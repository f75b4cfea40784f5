use Rattle.std.proofs.Common.{rules}
use Rattle.lsm_pins.proofs.SeatSteps.{makes_copy}
use Rattle.lsm_pins.proofs.pinner.Pinner.copy.Goals as goal

pub split_seat-requires : goal.split_seat-requires
split_seat-requires c = (search rules, search rules, makes_copy c.deref.result.now.shared.key _ _ c.self.inside.knows.live)
