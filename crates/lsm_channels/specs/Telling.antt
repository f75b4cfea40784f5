-- What an opening that is refused is told behind the refusal's name: the lines that `lsm` prints of
-- it behind its first one (docs/PROTOCOL.md, this project's rule).
use Rattle.std.specs.Prelude.{◌≡◌, ◌≢◌, ◌<◌, ℕ, false, List, [], ◌∷◌, ◌++◌}
use Rattle.std.specs.Prelude.{Option, None, Some, IfSome}
use Rattle.lsm_frames.specs.Answers.{IsRefused}
use Rattle.lsm_verify.specs.declared.check_fault.CheckFault.{CheckFault}
use Rattle.lsm_directory.specs.DirectoryFault as directory
use Rattle.lsm_directory.specs.Telling.{file_behind}
use Rattle.lsm_log_files.specs.declared.source_fault.SourceFault.{SourceFault}
use Rattle.lsm_log_files.specs.declared.source_fault.SourceFault.TheVariants as source
use Rattle.lsm_opening.specs.WriterFault.{table_file_of}
use Rattle.lsm_opening.specs.declared.faults.writer_fault.WriterFault.{WriterFault}
use Rattle.lsm_opening.specs.declared.faults.writer_fault.WriterFault.TheVariants as writer
use Rattle.lsm_recovery.specs.BringFault as logs
use Rattle.lsm_recovery.specs.declared.bring_fault.BringFault.{BringFault}
use Rattle.lsm_recovery.specs.declared.bring_fault.BringFault.TheVariants as bring
use Rattle.lsm_channels.specs.Answered.{answer_frame}
use Rattle.lsm_channels.specs.OpeningFault.{name_of, number_of}
use Rattle.lsm_channels.specs.declared.opening_fault.OpeningFault.{OpeningFault}
use Rattle.lsm_channels.specs.declared.opening_fault.OpeningFault.TheVariants.{BadOpening, IsThere}
use Rattle.lsm_channels.specs.declared.opening_fault.OpeningFault.TheVariants.{NoDatabase, Folder}
use Rattle.lsm_channels.specs.declared.opening_fault.OpeningFault.TheVariants.{Logs}

-- ---- the file whose table is refused

abbrev pub file_of : OpeningFault → Option ℕ
file_of BadOpening = None
file_of NoDatabase = None
file_of IsThere = None
file_of (Folder fault) = table_file_of fault
file_of (Logs fault) = logs.file_of fault

-- ---- what a refusal means, where contracts say that

abbrev pub meaning_of_folder : WriterFault → Option (List ℕ)
meaning_of_folder writer.OutOfMemory = Some []
meaning_of_folder writer.Read = None
meaning_of_folder writer.Write = Some []
meaning_of_folder (writer.BadLine line fault) = None
meaning_of_folder (writer.Directory fault) = Some (directory.meaning_of fault)
meaning_of_folder (writer.LostCurrent highest) = None
meaning_of_folder (writer.UnflushedLog number) = None
meaning_of_folder (writer.State fault) = None

abbrev pub meaning_of_source : SourceFault → Option (List ℕ)
meaning_of_source source.OutOfMemory = Some []
meaning_of_source (source.Manifest fault) = Some (directory.recover_meaning fault)
meaning_of_source (source.UnreadLog number fault) = None
meaning_of_source (source.BadLog number fault) = None

abbrev pub meaning_of_tables : CheckFault → Option (List ℕ)
meaning_of_tables fault = Some (directory.check_meaning fault)

abbrev pub meaning_of_logs : BringFault → Option (List ℕ)
meaning_of_logs bring.OutOfMemory = Some []
meaning_of_logs (bring.Folder fault) = meaning_of_folder fault
meaning_of_logs (bring.Read fault) = meaning_of_source fault
meaning_of_logs (bring.Bring fault) = Some []
meaning_of_logs (bring.Tables fault) = meaning_of_tables fault

abbrev pub meaning_of : OpeningFault → Option (List ℕ)
meaning_of BadOpening = Some []
meaning_of NoDatabase = Some []
meaning_of IsThere = Some []
meaning_of (Folder fault) = meaning_of_folder fault
meaning_of (Logs fault) = meaning_of_logs fault

-- ---- what is told

-- What the system answered, or which manifest is refused. A refusal of another number does not
-- come from the one, and is not of the other.
abbrev pub IsAnswer : (number : ℕ) → List ℕ → Type 0
IsAnswer number answer = (number ≢ 9 → number ≢ 10 → number < 19 → answer ≡ [])
    × (30 < number → answer ≡ [])

-- The line of the file whose table is refused, what it means, and what the system answered.
pub record AreLines (e : OpeningFault) (lines : List ℕ) : Type 0 where
  pub meaning : List ℕ
  pub means : IfSome (meaning_of e) (λ text. meaning ≡ text)
  pub answer : List ℕ
  pub answers : IsAnswer (number_of e) answer
  pub all : lines ≡ (file_behind false (file_of e) ++ meaning) ++ answer

-- lines behind a name: a newline comes before them, if there are any
abbrev pub behind : List ℕ → List ℕ
behind [] = []
behind (b ∷ bs) = 10 ∷ b ∷ bs

-- a name, and the lines behind it
abbrev pub IsTold : OpeningFault → (name text : List ℕ) → Type 0
IsTold e name text = (lines : List ℕ) × AreLines e lines × (text ≡ name ++ behind lines)

-- The answer of the refusal: its number, its name, and behind that its lines.
abbrev pub IsRefusalFrame : OpeningFault → List ℕ → Type 0
IsRefusalFrame e bytes = (text : List ℕ) × IsTold e (name_of e) text
    × (bytes ≡ answer_frame (IsRefused (number_of e) text))
