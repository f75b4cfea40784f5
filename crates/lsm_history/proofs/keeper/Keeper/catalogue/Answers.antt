use Rattle.std.proofs.Common.{sym, ◌∙◌}
use Rattle.lsm_history.proofs.HistorySteps.{remembers_as}
use Rattle.lsm_history.proofs.keeper.Keeper.catalogue.Goals as goal

pub split_seat-seat-requires : goal.split_seat-seat-requires
split_seat-seat-requires g c = let i = c.self.invariant in (i.2 ∙ sym i.1, i.0, remembers_as _ _ i.3)
