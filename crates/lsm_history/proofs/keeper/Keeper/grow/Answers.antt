use Rattle.std.proofs.Common.{sym, ◌∙◌}
use Rattle.lsm_history.proofs.HistorySteps.{grows_as}
use Rattle.lsm_history.proofs.keeper.Keeper.grow.Goals as goal

pub compare_exchange_with-requires : goal.compare_exchange_with-requires
compare_exchange_with-requires g c = let i = c.self.invariant in (i.2 ∙ sym i.1, i.0, grows_as _ _ _ c.args.new.now (λ n. n) 0 0 0 i.3)
