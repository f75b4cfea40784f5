use Rattle.lsm_lines.proofs.GatherLaws.{stops_unended}
use Rattle.lsm_lines.proofs.filling.next_line.Goals as goal

pub returns-else-last-clause-stops : goal.returns-else-last-clause-stops
returns-else-last-clause-stops g c = λ form. stops_unended form c.args.last c.args.lines.now
    c.next_held.new.self c.if-last.false (rw c.in-Ok-Last.field-0-is at c.in-Ok-Last.ensures)
