use Rattle.lsm_lines.specs.Reading.{bytes_left}
use Rattle.lsm_lines.proofs.LineLaws.{HasRead}
use Rattle.lsm_lines.proofs.line_reader.LineReader.next_held.Given as goal

abbrev pub invariant-loop-turn : goal.invariant-loop-turn
invariant-loop-turn g l = HasRead l.so_far l.self-inside.line.items l.fn.self.left (bytes_left l.self-inside.ahead)
