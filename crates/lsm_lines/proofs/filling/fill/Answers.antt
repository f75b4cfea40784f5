use Rattle.std.proofs.Common.{◌-◌, ◌<◌, length, arith, ap, sym, subst, ◌∙◌}
use Rattle.lsm_batch.specs.declared.write.Write.{Write}
use Rattle.lsm_batch.specs.Limits.{most_entries}
use Rattle.lsm_lines.specs.Filling.{Fills}
use Rattle.lsm_batch.proofs.CallerLemmas.{length_more}
use Rattle.lsm_lines.proofs.GatherLaws.{fills_more, fills_none, fills_over, takes_begins}
use Rattle.lsm_lines.proofs.filling.fill.Goals as goal

pub lines-init : goal.lines-init
lines-init g c = fills_none c.args.form c.args.last c.args.lines.now.left c.args.buffer.now

pub returns-in-Ok-None : goal.returns-in-Ok-None
returns-in-Ok-None g c =
    let none = rw c.in-Ok-None.field-0-is at c.in-Ok-None.ensures.none in
    (c.lines.lines.left, c.lines.invariant, none)

pub returns-in-Err : goal.returns-in-Err
returns-in-Err g c = (c.lines.lines.left, c.lines.invariant, c.in-Err.ensures.stops)

pub lines-smaller : goal.lines-smaller
lines-smaller g c =
    let count = ap (length {A = Write}) c.in-Ok.ensures.ok ∙ length_more c.lines.buffer c.in-Ok-Some.write in
    let less : most_entries - length c.put.new.self < most_entries - length c.lines.buffer = omega (arith, count, c.len.ensures.len, c.lines-test.true) in
    less

pub lines-preserved : goal.lines-preserved
lines-preserved g c =
    let some = rw c.in-Ok-Some.field-0-is at c.in-Ok-Some.ensures.some in
    subst (λ l. Fills c.args.form c.args.last c.args.lines.now.left c.next_write.new.lines.left c.args.buffer.now l) (sym c.in-Ok.ensures.ok)
    (fills_more c.args.form c.args.last c.args.lines.now.left c.lines.lines.left c.next_write.new.lines.left c.args.buffer.now c.lines.buffer some.0 c.in-Ok-Some.write c.lines.invariant some.1 some.2 some.3)

pub returns-in-Err-Full : goal.returns-in-Err-Full
returns-in-Err-Full g c =
    let some = rw c.in-Ok-Some.field-0-is at c.in-Ok-Some.ensures.some in
    let refused = rw c.in-Err-Full.field-0-is at c.in-Err-Full.ensures.refused in
    fills_over c.args.form c.args.last c.args.lines.now.left c.lines.lines.left c.next_write.new.lines.left c.args.buffer.now c.lines.buffer c.put.new.self some.0 c.in-Ok-Some.write _
    c.lines.invariant some.1 some.2 some.3 c.in-Err-Full.ensures.err (c.in-Err-Full.write-is ∙ refused.0) refused.2

pub returns-in-Err-Large : goal.returns-in-Err-Large
returns-in-Err-Large g c =
    let some = rw c.in-Ok-Some.field-0-is at c.in-Ok-Some.ensures.some in
    let large = rw c.in-Err-Large.field-0-is at c.in-Err-Large.ensures.refused in (
      c.lines.lines.left,
      subst (λ l. Fills c.args.form c.args.last c.args.lines.now.left c.lines.lines.left c.args.buffer.now l) (sym c.in-Err-Large.ensures.err) c.lines.invariant,
      (some.0, takes_begins some.0 c.lines.lines.left c.next_write.new.lines.left some.1, (c.in-Ok-Some.write, some.2, large)),
    )

pub returns-in-Err-OutOfMemory : goal.returns-in-Err-OutOfMemory
returns-in-Err-OutOfMemory g c =
    (c.lines.lines.left, subst (λ l. Fills c.args.form c.args.last c.args.lines.now.left c.lines.lines.left c.args.buffer.now l) (sym c.in-Err-OutOfMemory.ensures.err) c.lines.invariant, tt)

pub returns : goal.returns
returns g c = (c.lines.invariant, omega (arith, c.len.ensures.len, c.lines-test.false))
