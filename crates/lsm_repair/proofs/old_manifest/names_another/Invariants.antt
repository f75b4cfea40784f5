use Rattle.std.proofs.Common.{take}
use Rattle.lsm_repair.specs.OldManifest.{NamesAnother}
use Rattle.lsm_repair.proofs.old_manifest.names_another.Given as goal

-- none so far does
abbrev pub invariant-loop-edit : goal.invariant-loop-edit
invariant-loop-edit l = NamesAnother (take l.edit-index l.edits) → ⊥
