use Rattle.std.proofs.Common.{rules, ◌+◌, ◌<◌, arith, sym, ap, ◌∙◌, Some}
use Rattle.lsm_pins.proofs.PinSteps.{unpins_allowed}
use Rattle.lsm_pins.proofs.pinner.Pinner.unpin.Goals as goal

pub fetch_add-requires : goal.fetch_add-requires
fetch_add-requires c =
    let k = c.self.inside.knows in
    let within = k.within _ _ c.in-Some.is in
    let w = c.self.inside.words in
    let e = c.from.ensures in
    (search rules, (let p : c.from.result + 1 < c.self.inside.seat.table_id.words = omega arith in search rules), unpins_allowed c.deref.result.now.shared.key _ _ _ _ _ k.live k.reads (k.held_is ∙ c.in-Some.is ∙ ap (λ n. Some (c.in-Some.field-0-0, n)) (sym e)))

pub overflow_add-from : goal.overflow_add-from
overflow_add-from c =
    let k = c.self.inside.knows in
    let within = k.within _ _ c.in-Some.is in
    let few = k.few_slots in
    let e = c.from.ensures in
    omega arith
