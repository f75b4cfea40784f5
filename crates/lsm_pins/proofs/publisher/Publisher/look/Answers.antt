use Rattle.std.proofs.Common.{◌≡◌, subst, sym, rules, ◌+◌, ◌<◌, arith, ap, length}
use Rattle.std.proofs.lemmas.Grind.{common_steps}
use Rattle.lsm_pins.specs.Known.{Known}
use Rattle.lsm_pins.proofs.PublishSteps.{looks_allowed}
use Rattle.lsm_pins.specs.View.{is_unheld, looked_view, slot_ids}
use Rattle.lsm_pins.proofs.SlotLemmas.{ids-length, slot_ids-looked, free-looked, stays-looked}
use Rattle.lsm_pins.proofs.publisher.Publisher.look.Goals as goal

pub load-found-requires : goal.load-found-requires
load-found-requires c =
    let k = c.self.inside.knows in
    let w = c.self.inside.words in
    let e = c.from.ensures in
    let below : c.args.slot < length (slot_ids c.self.inside.seat.me.0) = subst (λ (w : Known). c.args.slot < length (slot_ids w.knows)) (sym c.self.view_is) c.requires in
    let same = ids-length c.self.inside.seat.me.0.records in
    let slots = k.slots_are in
    let records = ap length k.records_are in
    let key = c.deref.result.now.shared.key in (
      search rules,
      (let p : c.from.result + 1 < c.self.inside.seat.table_id.words = omega arith in search rules),
      looks_allowed key _ _ _ _ k.live k.publishes (omega arith),
    )

pub returns-then-unheld-clause-slots : goal.returns-then-unheld-clause-slots
returns-then-unheld-clause-slots c =
    let v = c.args.self.now.knows in
    let w = c.load-found.new.seat.me.0 in
    let looked : w ≡ looked_view v c.args.slot w.found = search rules in
    let unheld : c.if-slot-self.unheld ≡ is_unheld v c.args.slot w.found = grind (arith, common_steps) in
    slot_ids-looked v w c.args.slot w.found c.if-slot-self.unheld looked unheld

pub returns-then-unheld-clause-free : goal.returns-then-unheld-clause-free
returns-then-unheld-clause-free c =
    let v = c.args.self.now.knows in
    let w = c.load-found.new.seat.me.0 in
    free-looked v w c.args.slot c.if-slot-self.unheld c.requires (returns-then-unheld-clause-slots c)

pub returns-then-unheld-clause-stays : goal.returns-then-unheld-clause-stays
returns-then-unheld-clause-stays c =
    let v = c.args.self.now.knows in
    let w = c.load-found.new.seat.me.0 in
    λ s. stays-looked v w c.args.slot s c.if-slot-self.unheld (returns-then-unheld-clause-slots c)
