use Rattle.std.proofs.Common.{◌≡◌, ◌≤◌, ◌<◌, ℕ, List, arith, sym, ap, ◌∙◌, subst}
use Rattle.lsm_picker.specs.Joining.{Span}
use Rattle.lsm_state.specs.Held.{Held}
use Rattle.lsm_state.specs.Reserving.{IsRangePlan, plan_in}
use Rattle.lsm_store.specs.Picking.{HasToWaitAt}
use Rattle.lsm_store.proofs.manual_compaction.ManualCompaction.reserve.Goals as goal

pub returns-in-Ok-Some-clause-next : goal.returns-in-Ok-Some-clause-next
returns-in-Ok-Some-clause-next g c = λ h.
    let at = c.loop-level.level in
    let plan = plan_in c.in-Ok-Some.job in
    let planned = (rw c.in-Ok-Some.field-0-is at c.in-Ok-Some.ensures.planned) h in
    let self_is : c.args.self.now ≡ record { level = c.self.inside.last; from = c.self.inside.from; to = c.self.inside.to } = sym c.self.view_is in
    let last : c.args.self.now.level ≡ c.self.inside.last = ap (λ (s : Span). s.level) self_is in
    let few : at ≤ c.args.self.now.level = omega (arith, c.loop-level-test.true, last) in
    let from : c.as_slice-from.result.now ≡ c.args.self.now.from = c.as_slice-from.ensures ∙ sym (ap (λ (s : Span). s.from) self_is) in
    let to : c.as_slice-to.result.now ≡ c.args.self.now.to = c.as_slice-to.ensures ∙ sym (ap (λ (s : Span). s.to) self_is) in
    let waits : (n : ℕ) → n < at → HasToWaitAt c.args.self.now c.args.state.now n = λ n lt. c.loop-level.invariant.wait h n lt in
    let first = subst (λ (s : Held). IsRangePlan s at c.as_slice-from.result.now c.as_slice-to.result.now plan) c.loop-level.invariant.same planned in
    let second = subst (λ (k : List ℕ). IsRangePlan c.args.state.now at k c.as_slice-to.result.now plan) from first in
    (at, few, waits, subst (λ (k : List ℕ). IsRangePlan c.args.state.now at c.args.self.now.from k plan) to second)
