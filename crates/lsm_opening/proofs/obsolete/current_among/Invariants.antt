use Rattle.std.proofs.Common.{map, take, string_bytes}
use Rattle.lsm_opening.specs.Names.{Among}
use Rattle.lsm_opening.specs.Tidying.{IsNamedBy}
use Rattle.lsm_opening.proofs.obsolete.current_among.Given as goal

-- none so far is named
abbrev pub invariant-loop-name : goal.invariant-loop-name
invariant-loop-name l = Among (map string_bytes (take l.name-index l.names)) (IsNamedBy l.text) → ⊥
