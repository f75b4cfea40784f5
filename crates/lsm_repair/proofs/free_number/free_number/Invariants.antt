use Rattle.std.proofs.Common.{◌-◌, ◌<◌, ◌^◌, map, take, string_bytes}
use Rattle.lsm_opening.specs.Names.{IsLeastUnused}
use Rattle.lsm_repair.proofs.free_number.free_number.Given as goal

-- the least one that is unused so far
abbrev pub invariant-loop-name : goal.invariant-loop-name
invariant-loop-name l = record {
  least : IsLeastUnused (map string_bytes (take l.name-index l.names)) l.next;
  few : l.next < 2 ^ 64 - 2;
}
