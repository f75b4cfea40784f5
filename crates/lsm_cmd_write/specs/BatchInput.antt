-- What a fault says of an input from which a batch is read: this project's rule.
use Rattle.std.specs.Prelude.{ℕ, ⊤, List}
use Rattle.lsm_text.specs.BatchText.{IsFirstBadLine}
use Rattle.lsm_text.specs.declared.form.Form.{Form}
use Rattle.lsm_opening.specs.declared.faults.writer_fault.WriterFault.{WriterFault}
use Rattle.lsm_opening.specs.declared.faults.writer_fault.WriterFault.TheVariants.{OutOfMemory}
use Rattle.lsm_opening.specs.declared.faults.writer_fault.WriterFault.TheVariants.{Read}
use Rattle.lsm_opening.specs.declared.faults.writer_fault.WriterFault.TheVariants.{Write as WriteFault}
use Rattle.lsm_opening.specs.declared.faults.writer_fault.WriterFault.TheVariants.{BadLine}
use Rattle.lsm_opening.specs.declared.faults.writer_fault.WriterFault.TheVariants.{Directory}
use Rattle.lsm_opening.specs.declared.faults.writer_fault.WriterFault.TheVariants.{LostCurrent}
use Rattle.lsm_opening.specs.declared.faults.writer_fault.WriterFault.TheVariants.{UnflushedLog}
use Rattle.lsm_opening.specs.declared.faults.writer_fault.WriterFault.TheVariants.{State}

-- What a fault says of the text. A failed read, and want of memory, say nothing of it.
abbrev pub IsTextFault : Form → List ℕ → WriterFault → Type 0
IsTextFault form text OutOfMemory = ⊤
IsTextFault form text Read = ⊤
IsTextFault form text WriteFault = ⊥
IsTextFault form text (BadLine i fault) = IsFirstBadLine form text i
IsTextFault form text (Directory fault) = ⊥
IsTextFault form text (LostCurrent highest) = ⊥
IsTextFault form text (UnflushedLog n) = ⊥
IsTextFault form text (State fault) = ⊥
