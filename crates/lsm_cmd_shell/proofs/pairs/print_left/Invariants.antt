use Rattle.std.proofs.Common.{◌≡◌}
use Rattle.lsm_table.specs.Told.{Becomes}
use Rattle.lsm_model.specs.Scanning.{UsersAscend}
use Rattle.lsm_cmd_shell.proofs.PairLaws.{SoFar}
use Rattle.lsm_cmd_shell.proofs.pairs.print_left.Given as goal

abbrev pub invariant-loop-turn : goal.invariant-loop-turn
invariant-loop-turn g l = record {
  told : Becomes (g.B.Blocks.told l.fn.blocks) (g.B.Blocks.told l.blocks);
  loan : g.B.Blocks.loan l.blocks ≡ g.B.Blocks.loan l.fn.blocks;
  ascending : g.S.Shelf.honest → UsersAscend l.scan.left;
  printed : SoFar g.S.Shelf.honest l.form l.bounds l.fn.limit l.left l.fn.scan.left l.scan.left (g.O.Write.contents l.fn.out) (g.O.Write.contents l.out);
}
