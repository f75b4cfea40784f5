use Rattle.std.proofs.Common.{map, take, string_bytes}
use Rattle.lsm_opening.specs.Names.{IsLeastUnused}
use Rattle.lsm_opening.proofs.names.least_unused.Given as goal

-- the least one that is unused so far
abbrev pub invariant-loop-name : goal.invariant-loop-name
invariant-loop-name l = IsLeastUnused (map string_bytes (take l.name-index l.names)) l.next
