use Rattle.std.proofs.Common.{take}
use Rattle.lsm_manifest.specs.Manifest.{AreEdits}
use Rattle.lsm_journal.proofs.recover.edits_of.Given as goal

abbrev pub invariant-loop-record : goal.invariant-loop-record
invariant-loop-record l = AreEdits (take l.record-index l.records) l.edits.items
