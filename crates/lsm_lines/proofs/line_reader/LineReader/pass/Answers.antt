use Rattle.lsm_lines.proofs.PassLaws.{count_end, count_next}
use Rattle.lsm_lines.proofs.line_reader.LineReader.pass.Goals as goal

pub returns-in-End : goal.returns-in-End
returns-in-End g c =
    count_end c.loop-line._line c.args.count c.args.self.now.left c.loop-line.self c.next.new.self c.in_ok-next.field-0 c.loop-line.invariant c.in_ok-next.ensures c.in-End.is

pub loop-line-preserved : goal.loop-line-preserved
loop-line-preserved g c =
    count_next c.loop-line._line c.args.self.now.left c.loop-line.self c.next.new.self c.in_ok-next.field-0 c.loop-line.invariant c.in_ok-next.ensures c.in-Line.is
