use Rattle.std.proofs.Common.{sym, ◌∙◌}
use Rattle.lsm_history.proofs.HistorySteps.{lists_as}
use Rattle.lsm_history.proofs.keeper.Keeper.publish.Goals as goal

pub compare_exchange_with-requires : goal.compare_exchange_with-requires
compare_exchange_with-requires g c = let i = c.self.invariant in (i.2 ∙ sym i.1, i.0, lists_as _ _ _ c.args.new.now (λ n. n) 0 0 0 i.3)
