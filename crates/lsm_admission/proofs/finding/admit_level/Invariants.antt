use Rattle.std.proofs.Common.{take}
use Rattle.std.specs.List.Sorted.{IsSortedBy}
use Rattle.lsm_table.specs.Told.{Becomes}
use Rattle.lsm_version.specs.Versions.{stands_before}
use Rattle.lsm_admission.specs.FoundTables.{IsLevelFound}
use Rattle.lsm_admission.proofs.finding.admit_level.Given as goal

abbrev pub invariant-loop-file : goal.invariant-loop-file
invariant-loop-file g l = record {
  told : Becomes l.fn.shelf l.shelf;
  order : IsSortedBy stands_before l.tables.items;
  found : IsLevelFound (g.S.Finding.keeps g.N.Naming.place)
      (take l.file-index l.files) l.tables.items;
}
