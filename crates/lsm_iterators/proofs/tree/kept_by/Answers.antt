use Rattle.std.proofs.Common.{refl, inl}
use Rattle.lsm_iterators.proofs.tree.kept_by.Goals as goal

pub returns-then-moved-between-clause-kept : goal.returns-then-moved-between-clause-kept
returns-then-moved-between-clause-kept g c = inl ((c.requires.more c.if-moved-between.true).1, refl)
