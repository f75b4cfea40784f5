use Rattle.std.proofs.Common.{take}
use Rattle.lsm_manifest.specs.Replay.{Stands, AreInnocent}
use Rattle.lsm_manifest.specs.Standing.{file_at, Tracks}
use Rattle.lsm_manifest.proofs.shape.stand.Given as goal

abbrev pub invariant-loop-edit : goal.invariant-loop-edit
invariant-loop-edit l = Tracks (Stands (take l.edit-index l.edits)) (file_at l.standing) × AreInnocent (take l.edit-index l.edits)
