use Rattle.std.proofs.Common.{◌≡◌, ◌++◌, drop}
use Rattle.lsm_repair.specs.OldManifest.{first_edits}
use Rattle.lsm_repair.proofs.old_manifest.first_edits.Given as goal

-- the edits so far, and those behind them, are all
abbrev pub invariant-loop-record : goal.invariant-loop-record
invariant-loop-record l =
    l.edits.items ++ first_edits (drop l.record-index l.records) ≡ first_edits l.records
