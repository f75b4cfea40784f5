use Rattle.std.proofs.Common.{refl, sym, ◌∙◌, ap, inr}
use Rattle.std.specs.Ordering.{is_gt}
use Rattle.lsm_state.proofs.LargestKeys.{up_to_back}
use Rattle.lsm_state.proofs.install_change.greater_key.Goals as goal

pub returns-then-is_gt : goal.returns-then-is_gt
returns-then-is_gt c = inr (refl, up_to_back c.args.a.now c.args.b.now (ap is_gt (sym c.compare_keys.ensures) ∙ (sym c.is_gt.ensures ∙ c.if-is_gt.true)))
