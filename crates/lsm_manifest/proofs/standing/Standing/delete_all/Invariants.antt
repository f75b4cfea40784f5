use Rattle.std.proofs.Common.{List, [], take}
use Rattle.lsm_manifest.specs.EditFit.{Change}
use Rattle.lsm_manifest.specs.Replay.{Stands, StandsIn}
use Rattle.lsm_manifest.specs.Standing.{file_at, Tracks}
use Rattle.lsm_manifest.proofs.standing.Standing.delete_all.Given as goal

abbrev pub invariant-loop-file : goal.invariant-loop-file
invariant-loop-file l = (es : List Change) → Tracks (Stands es) (file_at l.fn.self) → Tracks (StandsIn es (take l.file-index l.deleted) []) (file_at l.self)
