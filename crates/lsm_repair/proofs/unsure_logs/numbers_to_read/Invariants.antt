use Rattle.std.proofs.Common.{map, take, string_bytes}
use Rattle.lsm_repair.specs.UnsureLogs.{AreNumbers}
use Rattle.lsm_repair.proofs.unsure_logs.numbers_to_read.Given as goal

-- the numbers of those so far
abbrev pub invariant-loop-name : goal.invariant-loop-name
invariant-loop-name l =
    AreNumbers l.logs (map string_bytes (take l.name-index l.names)) l.numbers.items
