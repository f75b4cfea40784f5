use Rattle.std.proofs.Common.{◌≡◌, ◌+◌, drop}
use Rattle.lsm_table.specs.Registry.{bytes_of}
use Rattle.lsm_cmd_read.proofs.counting.size_of_level.Given as goal

abbrev pub invariant-loop-table : goal.invariant-loop-table
invariant-loop-table g l = l.size + bytes_of (drop l.table-index l.tables) ≡ bytes_of l.tables
