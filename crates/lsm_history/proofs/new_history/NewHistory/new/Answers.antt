use Rattle.std.proofs.Common.{[], ◌∷◌}
use Rattle.lsm_history.proofs.HistorySteps.{begins}
use Rattle.lsm_history.proofs.new_history.NewHistory.new.Goals as goal

pub of_words-requires : goal.of_words-requires
of_words-requires c = begins (0 ∷ [])
