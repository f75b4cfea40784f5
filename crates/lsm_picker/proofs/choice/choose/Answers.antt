-- A level that is due and heavier than the best one takes its place, if it has a choice.
use Rattle.std.proofs.Common.{◌≡◌, ℕ, ◌+◌, ◌*◌, ◌<◌, ◌≤◌, ◌∙◌, Option, IfSome, ap, sym, subst, arith}
use Rattle.lsm_picker.specs.Choice.{AllBlocked, IsDue, IsLevelChoice}
use Rattle.lsm_picker.specs.Reservations.{IsClear}
use Rattle.lsm_picker.specs.Scores.{limit, score, weight}
use Rattle.lsm_picker.specs.TablePlans.{StandsIn, TablePlan}
use Rattle.lsm_picker.proofs.Choosing.{IsBest, best_blocked, best_done, best_given, best_skip, none_given}
use Rattle.lsm_picker.proofs.Scoring.{due_weight}
use Rattle.lsm_picker.proofs.choice.choose.Goals as goal
use Rattle.lsm_picker.proofs.choice.choose.Goals.{then-load-limit+then-weight-most+in_ok-plan+then-is_some, then-load-limit+then-weight-most+in_ok-plan+else-is_some, else-load-limit, else-load-limit-via-then-load-limit+else-weight-most, else-load-limit-via-else-load-limit}

pub loop-level-preserved : goal.loop-level-preserved
loop-level-preserved g c =
    let v = c.args.version.now in
    let rs = c.args.reservations.now in
    let i = c.loop-level.level in
    let inv = c.loop-level.invariant in
    let few : i ≤ 5 = omega (arith, c.loop-level-test.true) in
    let load_is : c.load-load.result ≡ (score v rs i).0 = c.load-load.ensures.load in
    let weight_is : c.load-load.result * c.scale.result ≡ weight v rs i = ap (λ (n : ℕ). n * c.scale.result) load_is ∙ ap (λ (n : ℕ). (score v rs i).0 * n) c.scale.ensures.scale in
    elim c.if-load-limit.branch [
      | then-load-limit+then-weight-most+in_ok-plan+then-is_some w ↦ (
          let due : limit i ≤ (score v rs i).0 = subst (λ (n : ℕ). limit i ≤ n) load_is (subst (λ (n : ℕ). n ≤ c.load-load.result) c.limit.ensures w.if-load-limit.true) in
          let over : c.loop-level.most < weight v rs i = subst (λ (n : ℕ). c.loop-level.most < n) weight_is w.if-weight-most.true in
          let there = sym w.is_some.ensures ∙ w.if-is_some.true in
          record {
            stands = subst (λ (o : Option TablePlan). IfSome o (λ p. StandsIn v p)) (sym w.best-is) w.in_ok-plan.ensures.stands;
            clear = subst (λ (o : Option TablePlan). IfSome o (λ p. IsClear p rs)) (sym w.best-is) w.in_ok-plan.ensures.clear;
            best_is = λ h. subst (λ (o : Option TablePlan). IsBest v rs (i + 1) o c.if-load-limit.most) (sym w.best-is)
                (subst (λ (n : ℕ). IsBest v rs (i + 1) w.in_ok-plan.plan n) (sym (w.most-is ∙ weight_is))
                (best_given v rs i c.loop-level.best c.loop-level.most w.in_ok-plan.plan there w.in_ok-plan.ensures.level (w.in_ok-plan.ensures.first h) due over (inv.best_is h)));
          })
      | then-load-limit+then-weight-most+in_ok-plan+else-is_some w ↦ (
          let gone = sym w.is_some.ensures ∙ w.if-is_some.false in
          record {
            stands = subst (λ (o : Option TablePlan). IfSome o (λ p. StandsIn v p)) (sym w.best-is) inv.stands;
            clear = subst (λ (o : Option TablePlan). IfSome o (λ p. IsClear p rs)) (sym w.best-is) inv.clear;
            best_is = λ h. subst (λ (o : Option TablePlan). IsBest v rs (i + 1) o c.if-load-limit.most) (sym w.best-is)
                (subst (λ (n : ℕ). IsBest v rs (i + 1) c.loop-level.best n) (sym w.most-is)
                (best_blocked v rs i c.loop-level.best c.loop-level.most (none_given w.in_ok-plan.plan (AllBlocked v rs i) (λ p. IsLevelChoice v rs i p) gone (w.in_ok-plan.ensures.first h)) (inv.best_is h)));
          })
      | else-load-limit w ↦ (
          let light : IsDue (score v rs i) → weight v rs i ≤ c.loop-level.most = λ due. elim w.else-load-limit.branch [
            | else-load-limit-via-then-load-limit+else-weight-most w' ↦ subst (λ (n : ℕ). n ≤ c.loop-level.most) weight_is w'.if-weight-most.false
            | else-load-limit-via-else-load-limit w' ↦ absurd (omega (arith, due, load_is, c.limit.ensures, w'.if-load-limit.false))
          ] in
          record {
            stands = subst (λ (o : Option TablePlan). IfSome o (λ p. StandsIn v p)) (sym w.best-is) inv.stands;
            clear = subst (λ (o : Option TablePlan). IfSome o (λ p. IsClear p rs)) (sym w.best-is) inv.clear;
            best_is = λ h. subst (λ (o : Option TablePlan). IsBest v rs (i + 1) o c.if-load-limit.most) (sym w.best-is)
                (subst (λ (n : ℕ). IsBest v rs (i + 1) c.loop-level.best n) (sym w.most-is)
                (best_skip v rs i c.loop-level.best c.loop-level.most light (due_weight v rs i few) (inv.best_is h)));
          })
    ]

pub returns-clause-choice : goal.returns-clause-choice
returns-clause-choice g c = λ h.
    best_done c.args.version.now c.args.reservations.now c.loop-level.level c.loop-level.most c.loop-level.best c.loop-level.auto.level-end c.loop-level-test.false (c.loop-level.invariant.best_is h)
