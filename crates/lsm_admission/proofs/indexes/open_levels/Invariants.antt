use Rattle.std.proofs.Common.{map, take}
use Rattle.lsm_table.specs.Told.{Becomes}
use Rattle.lsm_admission.specs.Indexes.{HaveIndexes, all_tables}
use Rattle.lsm_admission.proofs.indexes.open_levels.Given as goal

abbrev pub invariant-loop-level : goal.invariant-loop-level
invariant-loop-level g l = record {
  told : Becomes l.fn.shelf l.shelf;
  opened : g.S.Shelf.honest
      → HaveIndexes (all_tables (map (λ l. l.items) (take l.level-index l.levels)));
}
