use Rattle.std.proofs.Common.{rules, ap, ◌∙◌, arith}
use Rattle.lsm_pins.proofs.PinSteps.{pins_allowed}
use Rattle.lsm_pins.proofs.pinner.Pinner.pin.Goals as goal

pub fetch_add-found-requires : goal.fetch_add-found-requires
fetch_add-found-requires c =
    let k = c.self.inside.knows in
    let empty = ap (λ w. w.knows.held) c.self.view_is ∙ c.requires in
    (search rules, search rules, pins_allowed c.deref.result.now.shared.key _ _ c.self.inside.seat.me k.live k.reads empty (let e = k.count_is in let f = c.if-self-ge-MOST_PINS.false in omega arith) k.part)
