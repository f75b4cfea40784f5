use Rattle.std.proofs.Common.{length}
use Rattle.lsm_manifest.specs.EditReading.{fields_at}
use Rattle.lsm_manifest.specs.DraftView.{draft_of}
use Rattle.lsm_manifest.proofs.EditLoop.{Reads}
use Rattle.lsm_manifest.proofs.edit.read.Given as goal

abbrev pub invariant-loop : goal.invariant-loop
invariant-loop l = Reads (fields_at (length l.text) l.text) (length l.text) l.counter (draft_of l.draft) l.rest
