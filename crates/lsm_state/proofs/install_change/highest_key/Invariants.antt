use Rattle.std.proofs.Common.{take}
use Rattle.lsm_state.specs.LargestKeys.{IsHighestKey}
use Rattle.lsm_state.proofs.install_change.highest_key.Given as goal

abbrev pub invariant-loop-table : goal.invariant-loop-table
invariant-loop-table g l = IsHighestKey (take l.table-index l.tables) l.key l.highest
