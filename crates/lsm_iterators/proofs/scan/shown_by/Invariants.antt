use Rattle.std.proofs.Common.{◌≡◌}
use Rattle.lsm_table.specs.Told.{Becomes}
use Rattle.lsm_iterators.specs.Shown.{left_to_show}
use Rattle.lsm_iterators.proofs.scan.shown_by.Given as goal

abbrev pub invariant-loop : goal.invariant-loop
invariant-loop g l = record {
  told : Becomes (g.B.Blocks.told l.fn.blocks) (g.B.Blocks.told l.blocks);
  loan : g.B.Blocks.loan l.blocks ≡ g.B.Blocks.loan l.fn.blocks;
  same : g.S.Shelf.honest → left_to_show l.seq l.walk.passed l.is_done l.walk.left.placed ≡ left_to_show l.seq l.fn.walk.passed l.fn.is_done l.fn.walk.left.placed;
}
