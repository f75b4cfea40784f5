use Rattle.std.proofs.Common.{◌≡◌, ℕ, length, subst, arith}
use Rattle.std.proofs.lemmas.Grind.{common_steps}
use Rattle.lsm_model.specs.Files.{Meets}
use Rattle.lsm_picker.specs.TablePlans.{AreLinked}
use Rattle.lsm_picker.proofs.Planning.{no_length, none_linked}
use Rattle.lsm_picker.proofs.plan_maker.plan_between.Goals as goal

pub returns-then-is_empty-clause-none : goal.returns-then-is_empty-clause-none
returns-then-is_empty-clause-none g c = λ h order.
    let v = c.args.version.now in
    let us = c.in_ok-upper.upper.items in
    let none : length us ≡ 0 = grind (arith, common_steps, c.is_empty.ensures, c.if-is_empty.true) in
    none_linked v c.args.level c.args.from.now c.args.to.now us (no_length us none)
    (subst (λ (n : ℕ). AreLinked v n (λ F. Meets F c.args.from.now c.args.to.now) us) c.from.ensures (c.in_ok-upper.ensures.linked h (c.last-last.ensures.sound h) order))

pub returns-clause-planned : goal.returns-clause-planned
returns-clause-planned g c = λ h order.
    let v = c.args.version.now in
    let us = c.in_ok-upper.upper.items in
    let s = c.last-last.ensures.sound h in
    c.in_ok-plan_of_linked.ensures.planned c.args.from.now c.args.to.now h s
    (subst (λ (n : ℕ). AreLinked v n (λ F. Meets F c.args.from.now c.args.to.now) us) c.from.ensures (c.in_ok-upper.ensures.linked h s order))
