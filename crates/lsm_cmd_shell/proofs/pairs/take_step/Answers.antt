use Rattle.std.proofs.Common.{◌≡◌, ◌≢◌, false, sym, ap, ◌∙◌, subst}
use Rattle.lsm_codec.specs.Keys.{UserKey, UserLe}
use Rattle.lsm_iterators.specs.Shown.{user_shown}
use Rattle.lsm_requests.specs.KeyBounds.{is_within}
use Rattle.lsm_cmd_shell.proofs.PairLaws.{ends_last}
use Rattle.lsm_cmd_shell.proofs.pairs.take_step.Goals as goal

pub returns-then-ends_at-clause-stepped : goal.returns-then-ends_at-clause-stepped
returns-then-ends_at-clause-stepped g c = λ honest.
    let bounds = c.args.bounds.now in
    let step = rw c.if-not-branch.false at (c.in_ok-step_by.ensures.ok honest) in
    let here = c.step_by.new.self.here in
    let outside : is_within bounds (user_shown here) ≡ false = ap (is_within bounds) (sym c.user-key.ensures) ∙ sym c.is_within.ensures ∙ c.if-is_within.false in
    let none : ((later : UserKey) → UserLe (user_shown here) later → user_shown here ≢ later → is_within bounds later ≡ false) =
    subst (λ (k : UserKey). (later : UserKey) → UserLe k later → k ≢ later → is_within bounds later ≡ false) c.user-key.ensures (c.ends_at.ensures.none c.if-ends_at.true)
    in
    ends_last bounds c.args.scan.now c.step_by.new.self step (c.requires.ascending honest) outside none
