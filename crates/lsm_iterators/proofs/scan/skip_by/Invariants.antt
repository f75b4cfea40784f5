use Rattle.std.proofs.Common.{◌≡◌}
use Rattle.lsm_table.specs.Told.{Becomes}
use Rattle.lsm_model.specs.Merging.{entries_of}
use Rattle.lsm_model.specs.Scanning.{pairs_of}
use Rattle.lsm_iterators.proofs.scan.skip_by.Given as goal

abbrev pub invariant-loop : goal.invariant-loop
invariant-loop g l = record {
  told : Becomes (g.B.Blocks.told l.fn.blocks) (g.B.Blocks.told l.blocks);
  loan : g.B.Blocks.loan l.blocks ≡ g.B.Blocks.loan l.fn.blocks;
  passed : l.walk.passed ≡ l.fn.walk.passed;
  same : g.S.Shelf.honest → pairs_of l.seq l.fn.walk.passed (entries_of l.walk.left.placed) ≡ pairs_of l.seq l.fn.walk.passed (entries_of l.fn.walk.left.placed);
}
