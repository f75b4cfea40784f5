use Rattle.std.proofs.Common.{◌≡◌, None}
use Rattle.lsm_table.specs.Told.{Becomes}
use Rattle.lsm_model.specs.Ages.{against_age}
use Rattle.lsm_iterators.specs.Followed.{known_if}
use Rattle.lsm_iterators.specs.Runs.{ReadsNoOther}
use Rattle.lsm_iterators.proofs.ages.found_by.Given as goal

abbrev pub invariant-loop : goal.invariant-loop
invariant-loop g l = record {
  told : Becomes (g.B.Blocks.told l.fn.blocks) (g.B.Blocks.told l.blocks);
  loan : g.B.Blocks.loan l.blocks ≡ g.B.Blocks.loan l.fn.blocks;
  files : ReadsNoOther l.fn.walk.left l.walk.left;
  same : g.S.Shelf.honest → against_age None l.fn.walk.left.placed ≡ against_age (known_if l.before.depth l.walk.passed l.before.seq) l.walk.left.placed;
}
