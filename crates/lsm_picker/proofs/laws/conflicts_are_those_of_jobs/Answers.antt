use Rattle.lsm_picker.proofs.Conflicting.{conflict_says, says_conflict}
use Rattle.lsm_picker.proofs.laws.conflicts_are_those_of_jobs.Goals as goal

pub returns : goal.returns
returns c = λ p ticket floor ranges is_move other. (conflict_says p ticket floor ranges is_move other, says_conflict p ticket floor ranges is_move other)
