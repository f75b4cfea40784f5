use Rattle.std.proofs.Common.{◌≡◌}
use Rattle.lsm_manifest.specs.WholeEdit.{files_from}
use Rattle.lsm_manifest.proofs.WholeEditLoops.{Written}
use Rattle.lsm_manifest.proofs.whole_edit.files_of.Given as goal

abbrev pub invariant-loop-files : goal.invariant-loop-files
invariant-loop-files l = record { level_is : l.level ≡ l.files-index; written : Written files_from l.levels l.files-index l.added.items }
