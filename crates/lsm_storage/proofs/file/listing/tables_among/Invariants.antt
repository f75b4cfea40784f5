use Rattle.std.proofs.Common.{take, map}
use Rattle.std.specs.Prelude.{string_bytes}
use Rattle.lsm_storage.specs.Plans.{AreTablesOf}
use Rattle.lsm_storage.proofs.file.listing.tables_among.Given as goal

-- the numbers so far are those of the names so far
abbrev pub invariant-loop-name : goal.invariant-loop-name
invariant-loop-name l = AreTablesOf (map string_bytes (take l.name-index l.names)) l.numbers.items
