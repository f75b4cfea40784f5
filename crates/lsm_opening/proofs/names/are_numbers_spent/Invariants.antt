use Rattle.std.proofs.Common.{◌-◌, ◌^◌, map, take, string_bytes}
use Rattle.lsm_opening.specs.Names.{Among, IsNumbered}
use Rattle.lsm_opening.proofs.names.are_numbers_spent.Given as goal

-- none so far is such a one
abbrev pub invariant-loop-name : goal.invariant-loop-name
invariant-loop-name l = Among (map string_bytes (take l.name-index l.names)) (IsNumbered (2 ^ 64 - 1)) → ⊥
