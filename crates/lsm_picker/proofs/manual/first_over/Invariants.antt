use Rattle.std.proofs.Common.{◌≡◌, [], take}
use Rattle.std.specs.List.{filter}
use Rattle.lsm_version.specs.Overlap.{meets}
use Rattle.lsm_version.specs.Versions.{level_in}
use Rattle.lsm_picker.proofs.manual.first_over.Given as goal

abbrev pub invariant-loop-table : goal.invariant-loop-table
invariant-loop-table g l =
    filter (meets l.from l.to) (take l.table-index (level_in l.version.tables l.level)) ≡ []
