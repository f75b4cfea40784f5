use Rattle.std.proofs.Common.{◌≡◌, take}
use Rattle.lsm_picker.specs.Gathering.{newest}
use Rattle.lsm_state.proofs.gather.newest_of.Given as goal

abbrev pub invariant-loop-table : goal.invariant-loop-table
invariant-loop-table g l = l.newest.items ≡ newest l.number (take l.table-index l.tables)
