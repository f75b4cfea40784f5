use Rattle.std.proofs.Common.{◌≡◌, ◌++◌, drop}
use Rattle.lsm_state.specs.Listing.{listed_from}
use Rattle.lsm_state.proofs.state.State.files.Given as goal

abbrev pub invariant-loop-level : goal.invariant-loop-level
invariant-loop-level g l = l.files.items ++ listed_from l.level (drop l.level l.self.slots.version.tables) ≡ listed_from 0 l.self.slots.version.tables
