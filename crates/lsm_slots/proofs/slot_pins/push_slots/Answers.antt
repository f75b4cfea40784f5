use Rattle.std.proofs.Common.{◌++◌, ◌∙◌, take, sym, ap, append_assoc}
use Rattle.std.proofs.lemmas.List.{get_or_read}
use Rattle.lsm_slots.specs.Slots.{numbers_at, numbers_held}
use Rattle.lsm_slots.proofs.SlotLaws.{held_more}
use Rattle.std.proofs.Common.{None}
use Rattle.lsm_slots.proofs.slot_pins.push_slots.Goals as goal

pub returns-in_err-push_epoch-clause-front : goal.returns-in_err-push_epoch-clause-front
returns-in_err-push_epoch-clause-front g c = (numbers_held (take c.loop-epoch.epoch-index c.args.epochs.now), c.in_err-push_epoch.ensures.err ∙ c.loop-epoch.invariant)

pub returns-clause-front : goal.returns-clause-front
returns-clause-front g c = (numbers_held (take c.loop-epoch.epoch-index c.args.epochs.now), c.loop-epoch.invariant)

pub loop-epoch-preserved : goal.loop-epoch-preserved
loop-epoch-preserved g c =
    let i = c.loop-epoch.epoch-index in
    let es = c.args.epochs.now in
    let before = c.args.numbers.now.items in
    c.in_ok-push_epoch.ensures.ok ∙ (ap (λ l. l ++ numbers_at c.epoch-item.result) c.loop-epoch.invariant
    ∙ (append_assoc before (numbers_held (take i es)) (numbers_at c.epoch-item.result)
    ∙ ap (λ l. before ++ l) (ap (λ e. numbers_held (take i es) ++ numbers_at e) (get_or_read es i c.epoch-item.result c.loop-epoch-test.true c.epoch-item.is None) ∙ sym (held_more es i c.loop-epoch-test.true))))
