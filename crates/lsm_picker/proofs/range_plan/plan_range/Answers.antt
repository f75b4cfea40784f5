use Rattle.std.proofs.Common.{sym, ◌∙◌}
use Rattle.lsm_picker.proofs.Planning.{over_none, range_plan}
use Rattle.lsm_picker.proofs.range_plan.plan_range.Goals as goal

pub returns-then-not-is_at_most-clause-planned : goal.returns-then-not-is_at_most-clause-planned
returns-then-not-is_at_most-clause-planned g c = λ h.
    over_none c.args.version.now c.args.level c.args.from.now c.args.to.now (sym c.is_at_most.ensures ∙ c.if-not-is_at_most.true)

pub returns-clause-planned : goal.returns-clause-planned
returns-clause-planned g c = λ h.
    let order = sym c.is_at_most.ensures ∙ c.if-not-is_at_most.false in
    range_plan c.args.version.now c.args.level c.args.from.now c.args.to.now c.in_ok-plan_between.field-0 order
    c.in_ok-plan_between.ensures.level (c.in_ok-plan_between.ensures.none h order) (c.in_ok-plan_between.ensures.planned h order)
