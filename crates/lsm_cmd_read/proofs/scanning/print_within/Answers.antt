use Rattle.std.proofs.Common.{◌∙◌, sym}
use Rattle.lsm_cmd_read.proofs.ScanLaws.{one_outside, one_within}
use Rattle.lsm_cmd_read.proofs.scanning.print_within.Goals as goal

pub returns-then-not-is_within-clause-passed : goal.returns-then-not-is_within-clause-passed
returns-then-not-is_within-clause-passed g c = λ left.
    one_outside c.args.form c.args.options.now (c.args.user.now, c.args.value.now) left _ _
    (sym c.is_within.ensures ∙ c.if-not-is_within.true)

pub returns-clause-passed : goal.returns-clause-passed
returns-clause-passed g c = λ left.
    one_within c.args.form c.args.options.now (c.args.user.now, c.args.value.now) left _ _ _
    (sym c.is_within.ensures ∙ c.if-not-is_within.false)
    c.in_ok-print_pair.ensures.printed
