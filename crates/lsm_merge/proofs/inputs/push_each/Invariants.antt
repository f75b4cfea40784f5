use Rattle.std.proofs.Common.{◌≡◌, ◌++◌, map, take}
use Rattle.lsm_shelf.specs.Told.{Becomes}
use Rattle.lsm_model.specs.Merging.{AreOrdered}
use Rattle.lsm_merge.specs.Inputs.{entries_of_tables, files_in, numbers_of, streams}
use Rattle.lsm_merge.proofs.inputs.push_each.Given as goal

abbrev pub invariant-loop-table : goal.invariant-loop-table
invariant-loop-table g l = record {
  told : Becomes l.fn.shelf l.shelf;
  entries : g.S.Shelf.honest → streams l.runs.items ≡ streams l.initial.runs.items ++ entries_of_tables (take l.table-index l.tables);
  ordered : g.S.Shelf.honest → AreOrdered (map (λ r. r.placed) l.initial.runs.items) → AreOrdered (map (λ r. r.placed) l.runs.items);
  files : files_in l.runs.items ≡ files_in l.initial.runs.items ++ numbers_of (take l.table-index l.tables);
}
