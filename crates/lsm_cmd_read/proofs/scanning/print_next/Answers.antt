use Rattle.std.proofs.Common.{◌≢◌, List, true, false, ◌≡◌, ◌∷◌}
use Rattle.lsm_codec.specs.Keys.{UserKey, UserLe}
use Rattle.lsm_model.specs.Scanning.{Pair}
use Rattle.lsm_iterators.specs.Shown.{user_shown, value_shown}
use Rattle.lsm_requests.specs.KeyBounds.{is_within}
use Rattle.lsm_cmd_read.specs.Scanned.{Passes}
use Rattle.lsm_cmd_read.proofs.ScanLaws.{next_none, next_passed}
use Rattle.lsm_cmd_read.proofs.scanning.print_next.Goals as goal

pub returns-then-not-branch-clause-next : goal.returns-then-not-branch-clause-next
returns-then-not-branch-clause-next g c = λ honest.
    let step = rw c.if-not-branch.true at (c.in_ok-step_by.ensures.ok honest) in
    next_none c.args.form c.args.options.now c.args.scan.now c.step_by.new.self c.args.printed.now _
    step

pub returns-clause-next : goal.returns-clause-next
returns-clause-next g c = λ honest.
    let step = rw c.if-not-branch.false at (c.in_ok-step_by.ensures.ok honest) in
    let here = c.step_by.new.self.here in
    let options = c.args.options.now in
    let passed : (left : List Pair)
    → Passes c.args.form options ((user_shown here, value_shown here) ∷ left) left
    c.args.printed.now c.print_within.new.printed
    (g.O.Write.contents c.args.out.now) (g.O.Write.contents c.print_within.new.out) =
    rw (← c.user-key.ensures, ← c.value.ensures) c.in_ok-print_within.ensures.passed in
    let none : c.ends_at.result ≡ true → (later : UserKey) → UserLe (user_shown here) later
    → user_shown here ≢ later → is_within options.bounds later ≡ false =
    rw (← c.user-key.ensures) c.ends_at.ensures.none
    in
    next_passed c.args.form options c.ends_at.result c.args.scan.now c.step_by.new.self _ _ _ _ step
    (c.requires.ascending honest) passed none
