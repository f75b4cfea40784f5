use Rattle.std.proofs.Common.{rules}
use Rattle.std.proofs.lemmas.List.Sorted.{answers_always}
use Rattle.lsm_batch.proofs.LastLaws.{comes_first, comes_first-order, falls_from, last_write-sorted}
use Rattle.lsm_batch.proofs.last_writes.greatest_first.Goals as goal

pub returns-clause-order : goal.returns-clause-order
returns-clause-order c = falls_from _ (c.in_ok-sort_by.ensures.sorted comes_first comes_first-order (answers_always _ _ _ (λ f a r g h. search rules)))

pub returns-clause-last : goal.returns-clause-last
returns-clause-last c = λ key. last_write-sorted key _ _ (c.sort_by.ensures.stable comes_first comes_first-order (answers_always _ _ _ (λ f a r g h. search rules)))
