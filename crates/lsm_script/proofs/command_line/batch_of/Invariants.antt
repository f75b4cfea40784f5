use Rattle.std.proofs.Common.{take}
use Rattle.lsm_text.specs.BatchText.{AreWriteLines}
use Rattle.lsm_script.proofs.WordLaws.{texts}
use Rattle.lsm_script.proofs.command_line.batch_of.Given as goal

abbrev pub invariant-loop-word : goal.invariant-loop-word
invariant-loop-word l = AreWriteLines l.form (take l.word-index (texts l.words)) l.batch
