use Rattle.std.proofs.Common.{◌≡◌, take}
use Rattle.lsm_manifest.specs.Replay.{last_log, last_prev_log}
use Rattle.lsm_repair.proofs.old_manifest.numbers_of.Given as goal

-- the last numbers so far
abbrev pub invariant-loop-edit : goal.invariant-loop-edit
invariant-loop-edit l = record {
  log : l.log ≡ last_log (take l.edit-index l.edits);
  prev_log : l.prev_log ≡ last_prev_log (take l.edit-index l.edits);
}
