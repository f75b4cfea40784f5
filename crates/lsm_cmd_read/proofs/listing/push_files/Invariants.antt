use Rattle.std.proofs.Common.{◌≡◌, ◌++◌, drop}
use Rattle.lsm_cmd_read.specs.Listing.{file_lines}
use Rattle.lsm_cmd_read.proofs.listing.push_files.Given as goal

abbrev pub invariant-loop-table : goal.invariant-loop-table
invariant-loop-table g l = l.out.items ++ file_lines l.form l.level (drop l.table-index l.tables) ≡
    l.initial.out.items ++ file_lines l.form l.level l.tables
