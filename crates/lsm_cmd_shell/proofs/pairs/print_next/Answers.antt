use Rattle.std.specs.Io.KnownBytes.{Appends}
use Rattle.lsm_iterators.specs.Shown.{user_shown, value_shown}
use Rattle.lsm_cmd_shell.specs.Pairs.{pair_line}
use Rattle.lsm_cmd_shell.proofs.PairLaws.{next_outside, next_within}
use Rattle.lsm_cmd_shell.proofs.pairs.print_next.Goals as goal

pub returns-in-Ok-Outside-clause-next : goal.returns-in-Ok-Outside-clause-next
returns-in-Ok-Outside-clause-next g c =
    next_outside g.S.Shelf.honest c.args.form c.args.bounds.now c.args.limit.now c.args.scan.now.left c.take_step.new.scan _ (λ h. rw c.in-Ok-Outside.field-0-is at (c.in-Ok-Outside.ensures.stepped h)) c.requires.ascending

pub returns-in-Ok-clause-next : goal.returns-in-Ok-clause-next
returns-in-Ok-clause-next g c =
    let here = c.take_step.new.scan.here in
    let line : Appends (g.O.Write.contents c.args.out.now) (g.O.Write.contents c.print_pair.new.out) (pair_line c.args.form (user_shown here, value_shown here)) =
    rw (← c.user.ensures, ← c.value.ensures) c.in-Ok.ensures.printed
    in
    next_within g.S.Shelf.honest c.args.form c.args.bounds.now c.args.limit.now _ c.args.scan.now.left c.take_step.new.scan _ _ (λ h. rw c.in-Ok-Within.field-0-is at (c.in-Ok-Within.ensures.stepped h)) c.requires.ascending
    c.requires.more c.one_less.ensures line
