use Rattle.std.proofs.Common.{rules, ap, ◌∙◌}
use Rattle.lsm_pins.proofs.SeatSteps.{takes_note}
use Rattle.lsm_pins.proofs.PinSteps.{note_allowed}
use Rattle.lsm_pins.proofs.publisher.Publisher.take.Goals as goal

pub join_seat-requires : goal.join_seat-requires
join_seat-requires c = let k = c.self.inside.knows in (search rules, search rules, search rules, search rules, takes_note c.deref.result.now.shared.key _ _ _ _ k.live c.requires.2)

pub load-requires : goal.load-requires
load-requires c =
    let k = c.self.inside.knows in
    let is = c.join_seat.ensures.2 in
    (search rules, search rules, note_allowed c.deref-2.result.now.shared.key _ _ _ (ap (λ m. m.0.live) is ∙ k.live) (ap (λ m. m.0.publishes) is ∙ k.publishes))
