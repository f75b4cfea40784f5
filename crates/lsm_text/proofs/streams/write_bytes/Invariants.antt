use Rattle.std.proofs.Common.{[]}
use Rattle.lsm_text.specs.Printing.{Passes}
use Rattle.lsm_text.proofs.streams.write_bytes.Given as goal

abbrev pub invariant-loop-turn : goal.invariant-loop-turn
invariant-loop-turn g l = Passes (g.W.Write.contents l.fn.out) [] (g.W.Write.contents l.out) l.rest l.bytes
