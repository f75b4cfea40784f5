use Rattle.std.proofs.Common.{rules}
use Rattle.std.proofs.lemmas.List.Sorted.{answers_always}
use Rattle.lsm_repair.proofs.MergeLaws.{goes_first, goes_first-order, ordered_from}
use Rattle.lsm_repair.proofs.merging.in_order.Goals as goal

pub returns-clause-order : goal.returns-clause-order
returns-clause-order c =
    ordered_from _ (c.in_ok-sort_by.ensures.sorted goes_first goes_first-order
    (answers_always _ _ _ (λ f a r g h. search rules)))
