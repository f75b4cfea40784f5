use Rattle.std.proofs.Common.{take, map}
use Rattle.lsm_table.specs.Told.{Becomes}
use Rattle.lsm_version.specs.Versions.{AreInOrder}
use Rattle.lsm_admission.specs.FoundTables.{AreFound}
use Rattle.lsm_admission.proofs.finding.find_levels.Given as goal

abbrev pub invariant-loop-level : goal.invariant-loop-level
invariant-loop-level g l = record {
  told : Becomes l.fn.shelf l.shelf;
  order : AreInOrder (map (λ l. l.items) l.tables.items);
  found : AreFound (g.S.Finding.keeps g.N.Naming.place)
      (take l.level-index l.levels) (map (λ l. l.items) l.tables.items);
}
