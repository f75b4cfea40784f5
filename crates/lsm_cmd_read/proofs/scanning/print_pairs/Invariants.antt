use Rattle.std.proofs.Common.{◌≡◌, ◌≤◌}
use Rattle.std.specs.Prelude.{IsFalse}
use Rattle.std.specs.Io.KnownBytes.{Keeps}
use Rattle.lsm_table.specs.Told.{Becomes}
use Rattle.lsm_model.specs.Scanning.{UsersAscend}
use Rattle.lsm_cmd_read.specs.Scanned.{Fits, Passes}
use Rattle.lsm_cmd_read.proofs.scanning.print_pairs.Given as goal

abbrev pub invariant-loop-passed : goal.invariant-loop-passed
invariant-loop-passed g l = record {
  told : Becomes (g.B.Blocks.told l.fn.blocks) (g.B.Blocks.told l.blocks);
  loan : g.B.Blocks.loan l.blocks ≡ g.B.Blocks.loan l.fn.blocks;
  quiet : IsFalse l.progress → Keeps (g.E.Write.contents l.fn.err) (g.E.Write.contents l.err);
  ascending : g.S.Shelf.honest → UsersAscend l.scan.left;
  few : l.printed ≤ l.passed;
  fits : Fits l.options.limit l.printed;
  printed : g.S.Shelf.honest → Passes l.form l.options l.fn.scan.left l.scan.left 0 l.printed
      (g.O.Write.contents l.fn.out) (g.O.Write.contents l.out);
}
