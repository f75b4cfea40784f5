use Rattle.std.proofs.Common.{◌≡◌, ◌++◌, take}
use Rattle.lsm_state.specs.Listing.{listed_at}
use Rattle.lsm_state.proofs.listing.push_files.Given as goal

abbrev pub invariant-loop-table : goal.invariant-loop-table
invariant-loop-table g l = l.files.items ≡ l.initial.files.items ++ listed_at l.level (take l.table-index l.tables)
