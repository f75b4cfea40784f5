-- Why a command on an open directory ends with a fault.
use Rattle.std.proofs.Common.{◌≡◌, ◌≢◌, ℕ, List, Option, Some, None, refl}
use Rattle.lsm_shelf.specs.Told.{Told}
use Rattle.lsm_version.specs.Versions.{Levels}
use Rattle.lsm_requests.specs.declared.directory_command.DirectoryCommand.{DirectoryCommand}
use Rattle.lsm_text.specs.declared.form.Form.{Form}
use Rattle.lsm_requests.specs.declared.get_output.GetOutput.{GetOutput}
use Rattle.lsm_requests.specs.declared.get_output.GetOutput.TheVariants.{Line, Raw, Nothing}
use Rattle.lsm_directory.specs.declared.faults.directory_fault.DirectoryFault.{DirectoryFault}
use Rattle.lsm_directory.specs.declared.faults.directory_fault.DirectoryFault.TheVariants.{
  OutOfMemory,
  Write,
  Shelf,
  Manifest,
  Tables,
  Read,
  NumbersSpent,
  Locked,
  UnflushedLog,
  TornManifest,
  LaterManifest,
  RocksDbFiles,
  Absent,
}
use Rattle.lsm_cmd_read.specs.Answers.{IsPerformFault}
use Rattle.lsm_cmd_read.specs.Listing.{shown_answer}
use Rattle.lsm_cmd_read.specs.ReadFault.{IsAnswerFault, IsOutputFault}
use Rattle.lsm_cmd_read.proofs.FaultLaws.{answer_fault_from_output}

pub perform_from_answer : (Honest : Type 0) (command : DirectoryCommand) (v : Levels)
    (e : DirectoryFault) (a b : Told) → IsAnswerFault Honest e a b
    → IsPerformFault Honest command v e a b
perform_from_answer Honest command v OutOfMemory a b f = f
perform_from_answer Honest command v Write a b f = f
perform_from_answer Honest command v (Shelf fault) a b f = f
perform_from_answer Honest command v (Manifest fault) a b f = f
perform_from_answer Honest command v (Tables fault) a b f = f
perform_from_answer Honest command v (Read fault) a b f = f
perform_from_answer Honest command v NumbersSpent a b f = f
perform_from_answer Honest command v Locked a b f = f
perform_from_answer Honest command v (UnflushedLog number) a b f = f
perform_from_answer Honest command v (TornManifest rest) a b f = f
perform_from_answer Honest command v (LaterManifest later) a b f = f
perform_from_answer Honest command v RocksDbFiles a b f = f
perform_from_answer Honest command v Absent a b f = absurd f

pub perform_from_output : (Honest : Type 0) (command : DirectoryCommand) (v : Levels)
    (e : DirectoryFault) (a b : Told) → IsOutputFault e
    → IsPerformFault Honest command v e a b
perform_from_output Honest command v e a b f =
    perform_from_answer Honest command v e a b (answer_fault_from_output Honest e a b f)

-- of which answers nothing is written
pub nothing_shown : (form : Form) (output : GetOutput) (answer : Option (List ℕ))
    → shown_answer form output answer ≡ None → (output ≢ Line) × (answer ≡ None)
nothing_shown form Line answer h = absurd cc
nothing_shown form Raw answer h = (λ e. cc, h)
nothing_shown form Nothing None h = (λ e. cc, refl)
nothing_shown form Nothing (Some value) h = absurd cc
