use Rattle.std.proofs.Common.{◌≡◌, length}
use Rattle.lsm_cmd_bench.proofs.draws.drawn_bytes.Given as goal

abbrev pub invariant-bytes : goal.invariant-bytes
invariant-bytes l = length l.bytes.items ≡ l.counter
