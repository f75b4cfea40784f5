use Rattle.std.proofs.Common.{◌≡◌, ◌++◌, length}
use Rattle.lsm_shelf.specs.Told.{Becomes}
use Rattle.lsm_database.proofs.pairs.first_pairs.Given as goal

-- the pairs are the first ones, and those behind them are left
abbrev pub invariant-loop-taken : goal.invariant-loop-taken
invariant-loop-taken g l = record {
  so_far : g.S.Shelf.honest → l.pairs.items ++ l.scan.left ≡ l.fn.scan.left;
  count : length l.pairs.items ≡ l._taken;
  told : Becomes (g.B.Blocks.told l.fn.blocks) (g.B.Blocks.told l.blocks);
}
