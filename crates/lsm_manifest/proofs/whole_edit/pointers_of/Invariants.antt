use Rattle.std.proofs.Common.{◌≡◌}
use Rattle.lsm_manifest.specs.WholeEdit.{pointers_from}
use Rattle.lsm_manifest.proofs.WholeEditLoops.{Written}
use Rattle.lsm_manifest.proofs.whole_edit.pointers_of.Given as goal

abbrev pub invariant-loop-key : goal.invariant-loop-key
invariant-loop-key l = record { level_is : l.level ≡ l.key-index; written : Written pointers_from l.keys l.key-index l.pointers.items }
