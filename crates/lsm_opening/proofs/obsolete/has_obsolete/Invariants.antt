use Rattle.std.proofs.Common.{map, take, string_bytes}
use Rattle.lsm_opening.specs.Names.{Among}
use Rattle.lsm_opening.specs.Tidying.{IsObsolete}
use Rattle.lsm_opening.proofs.obsolete.has_obsolete.Given as goal

-- none so far is such a one
abbrev pub invariant-loop-name : goal.invariant-loop-name
invariant-loop-name l = Among (map string_bytes (take l.name-index l.names)) (IsObsolete l.manifest) → ⊥
