use Rattle.std.proofs.Common.{subst, sym}
use Rattle.lsm_lines.specs.Filling.{IsNoWrite}
use Rattle.lsm_lines.specs.Reading.{TakesLine}
use Rattle.lsm_lines.proofs.GatherLaws.{stops_at}
use Rattle.lsm_lines.proofs.filling.next_write.Goals as goal

pub returns-in-Ok-clause-some : goal.returns-in-Ok-clause-some
returns-in-Ok-clause-some g c =
    let taken = c.in-Ok-true.ensures.line c.in-Ok-true.field-0-test in (
      c.line.result.now,
      subst (λ l. TakesLine l c.args.lines.now.left c.next_line.new.lines.left)
          (sym c.line.ensures) taken.0,
      c.in-Ok.ensures.write,
      taken.1,
    )

pub returns-in-Err-write_of-clause-stops : goal.returns-in-Err-write_of-clause-stops
returns-in-Err-write_of-clause-stops g c =
    let taken = c.in-Ok-true.ensures.line c.in-Ok-true.field-0-test in
    stops_at c.args.form c.args.last c.next_line.new.lines.line c.args.lines.now.left
    c.next_line.new.lines.left c.in-Err-write_of.fault taken.0
    (subst (λ l. IsNoWrite c.args.form l c.in-Err-write_of.fault) c.line.ensures
    c.in-Err-write_of.ensures.bad)

pub returns-in-Err-clause-stops : goal.returns-in-Err-clause-stops
returns-in-Err-clause-stops g c = c.in-Err.ensures.stops c.args.form
