use Rattle.lsm_lines.specs.Passing.{TakesCount}
use Rattle.lsm_lines.proofs.line_reader.LineReader.pass.Given as goal

abbrev pub invariant-loop-line : goal.invariant-loop-line
invariant-loop-line g l = TakesCount l._line l.fn.self.left l.self.left
