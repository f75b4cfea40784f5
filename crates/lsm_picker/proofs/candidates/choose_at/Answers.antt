use Rattle.std.proofs.Common.{Option, true, subst}
use Rattle.std.specs.Prelude.{MatchOption}
use Rattle.std.proofs.lemmas.Result.{IfOk-weaker}
use Rattle.lsm_picker.specs.Choice.{AllBlockedBeside, IsFirstClear}
use Rattle.lsm_picker.specs.TablePlans.{TablePlan}
use Rattle.lsm_picker.proofs.Choosing.{last_side}
use Rattle.lsm_picker.proofs.candidates.choose_at.Goals as goal

pub returns-in-None-clause-first : goal.returns-in-None-clause-first
returns-in-None-clause-first g c = λ h.
    let v = c.args.version.now in
    let rs = c.args.reservations.now in
    let a : AllBlockedBeside v rs c.args.level true
    = subst (λ (o : Option TablePlan). MatchOption o (AllBlockedBeside v rs c.args.level true) (λ p. IsFirstClear v rs c.args.level true p)) c.in-None.is (c.in_ok-plan.ensures.first h) in
    IfOk-weaker c.first_clear-in-None.result _ _ (λ o m. last_side v rs c.args.level o a m) (c.first_clear-in-None.ensures.first h)
