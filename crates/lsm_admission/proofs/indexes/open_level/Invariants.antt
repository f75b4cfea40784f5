use Rattle.std.proofs.Common.{take}
use Rattle.lsm_table.specs.Told.{Becomes}
use Rattle.lsm_admission.specs.Indexes.{HaveIndexes}
use Rattle.lsm_admission.proofs.indexes.open_level.Given as goal

abbrev pub invariant-loop-table : goal.invariant-loop-table
invariant-loop-table g l = record {
  told : Becomes l.fn.shelf l.shelf;
  opened : g.S.Shelf.honest → HaveIndexes (take l.table-index l.level);
}
