use Rattle.std.proofs.Common.{rules, Some, slice_set, ◌≡◌, ◌+◌, ◌<◌, ◌^◌, arith, sym, ap, ◌∙◌, subst}
use Rattle.atomic_table.specs.Table.{step, Allows}
use Rattle.std.proofs.lemmas.Grind.{common_steps}
use Rattle.lsm_pins.specs.Known.{Known}
use Rattle.lsm_pins.proofs.PublishSteps.{publishes_allowed}
use Rattle.lsm_pins.specs.Head.{head_of}
use Rattle.lsm_pins.specs.SlotRecord.{record_at, unused}
use Rattle.lsm_pins.specs.View.{IsFree, published_view, slot_ids}
use Rattle.lsm_pins.specs.Rule.{BoardHolds}
use Rattle.lsm_pins.specs.Step.{Published}
use Rattle.std.proofs.lemmas.Option.{slice_get-get_or}
use mathlib.Core.Option.{none}
use Rattle.lsm_pins.proofs.SlotLemmas.{free-record, slot_ids-published, stays-published}
use Rattle.lsm_pins.proofs.publisher.Publisher.publish.Goals as goal

pub swap-found-requires : goal.swap-found-requires
swap-found-requires c =
    let k = c.self.inside.knows in
    let free : IsFree c.self.inside.seat.me.0 c.args.slot = subst (λ (w : Known). IsFree w.knows c.args.slot) (sym c.self.view_is) c.requires in
    let me = c.self.inside.seat.me in
    let at = free-record me.0.records c.args.slot free in
    let key = c.deref.result.now.shared.key in
    let slots = c.deref.result.now.shared.table_id.slots in
    let id_fits = k.id_fits in
    let more : me.0.id + 1 < 2 ^ 28 = let a = k.id_is in let e = c.if-self-eq-LAST_ID.false in omega arith in
    let head : head_of c.args.slot (me.0.id + 1) 0 ≡ c.unpinned-head.result = ap (λ i. head_of c.args.slot (i + 1) 0) k.id_is ∙ sym c.unpinned-head.ensures in (
      search rules,
      search rules,
      subst (λ x. Allows (BoardHolds key) slots c.self.inside.seat.id me 0 (λ _. x) (Published (step slots 0 x 0 none) me)) head
          (publishes_allowed key slots c.self.inside.seat.id me c.args.slot (record_at me.0.records c.args.slot) k.live k.publishes k.uncounted more (slice_get-get_or me.0.records c.args.slot unused at.0) at.1),
    )

pub returns-clause-slots : goal.returns-clause-slots
returns-clause-slots c =
    let v = c.args.self.now.knows in
    let w = c.swap-found.new.seat.me.0 in
    let published : w ≡ published_view v c.args.slot w.found = grind (arith, common_steps) in
    let id : c.self.inside.id ≡ v.id = search rules in
    slot_ids-published v w c.args.slot w.found published ∙ ap (λ i. slice_set (slot_ids v) c.args.slot (Some (i + 1))) (sym id)

pub returns-clause-stays : goal.returns-clause-stays
returns-clause-stays c = λ s other. stays-published c.args.self.now.knows c.swap-found.new.seat.me.0 c.args.slot s (Some (c.self.inside.id + 1)) other (returns-clause-slots c)
