use Rattle.std.proofs.Common.{◌≤◌, length}
use Rattle.std.specs.Io.KnownBytes.{Keeps}
use Rattle.lsm_lines.specs.Reading.{bytes_left}
use Rattle.lsm_lines.proofs.ahead.Ahead.fill.Given as goal

abbrev pub invariant-loop-turn : goal.invariant-loop-turn
invariant-loop-turn g l = record {
  kept : Keeps (bytes_left l.fn.self) (g.I.Read.remaining l.self-inside.input);
  order : l.self-inside.start ≤ l.self-inside.end;
  empty : l.self-inside.end ≤ l.self-inside.start;
  within : l.self-inside.end ≤ length l.self-inside.buffer.items;
  room : 65536 ≤ length l.self-inside.buffer.items;
}
