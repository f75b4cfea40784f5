use Rattle.std.proofs.Common.{List, [], take}
use Rattle.lsm_manifest.specs.EditFit.{Change}
use Rattle.lsm_manifest.specs.Replay.{Deletion, StandsIn, AreNew}
use Rattle.lsm_manifest.specs.Standing.{file_at, Tracks}
use Rattle.lsm_manifest.proofs.standing.Standing.add_all.Given as goal

abbrev pub invariant-loop-file : goal.invariant-loop-file
invariant-loop-file l =
    (es : List Change) (ds : List Deletion) → Tracks (StandsIn es ds []) (file_at l.fn.self) → Tracks (StandsIn es ds (take l.file-index l.added)) (file_at l.self) × AreNew es ds (take l.file-index l.added)
