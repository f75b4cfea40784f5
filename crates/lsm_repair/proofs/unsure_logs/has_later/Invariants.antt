use Rattle.std.proofs.Common.{map, take, string_bytes}
use Rattle.lsm_opening.specs.Names.{Among}
use Rattle.lsm_repair.specs.UnsureLogs.{IsLater}
use Rattle.lsm_repair.proofs.unsure_logs.has_later.Given as goal

-- none so far is
abbrev pub invariant-loop-name : goal.invariant-loop-name
invariant-loop-name l =
    Among (map string_bytes (take l.name-index l.names)) (IsLater l.number) → ⊥
