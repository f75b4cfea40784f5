use Rattle.std.proofs.Common.{◌≡◌, ◌+◌, drop}
use Rattle.lsm_table.specs.Registry.{bytes_of}
use Rattle.lsm_cmd_shell.proofs.statistics.bytes_of.Given as goal

abbrev pub invariant-loop-table : goal.invariant-loop-table
invariant-loop-table g l = l.bytes + bytes_of (drop l.table-index l.tables) ≡ bytes_of l.tables
