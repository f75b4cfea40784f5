-- What is told of a refusal, put together.
use Rattle.std.proofs.Common.{◌≡◌, ℕ, false, List, [], ◌++◌, Option, Some, None, IfSome}
use Rattle.std.proofs.Common.{Result, Ok, Err, IfOk, ap, ap₂, ◌∙◌}
use Rattle.std.specs.Io.KnownBytes.{Appends}
use Rattle.lsm_frames.specs.Answers.{IsRefused}
use Rattle.lsm_directory.specs.Telling.{file_behind}
use Rattle.lsm_channels.specs.Answered.{answer_frame}
use Rattle.lsm_channels.specs.OpeningFault.{name_of, number_of}
use Rattle.lsm_channels.specs.Telling.{AreLines, IsAnswer, IsRefusalFrame, IsTold, behind}
use Rattle.lsm_channels.specs.Telling.{file_of, meaning_of}
use Rattle.lsm_channels.specs.declared.opening_fault.OpeningFault.{OpeningFault}

-- what was written where nothing was before
pub explained_all : (meaning : Option (List ℕ)) (old new : List ℕ) → old ≡ []
    → IfSome meaning (λ text. Appends (Some old) (Some new) text)
    → IfSome meaning (λ text. new ≡ text)
explained_all None old new none written = tt
explained_all (Some text) old new none written =
    written ∙ ap (λ (o : List ℕ). o ++ text) none

pub are_lines : (e : OpeningFault) (file : Option ℕ) (line meaning answer lines : List ℕ)
    → file ≡ file_of e → line ≡ file_behind false file
    → IfSome (meaning_of e) (λ text. meaning ≡ text) → IsAnswer (number_of e) answer
    → lines ≡ (line ++ meaning) ++ answer → AreLines e lines
are_lines e file line meaning answer lines its behind means answers all = record {
  meaning = meaning;
  means = means;
  answer = answer;
  answers = answers;
  all = all ∙ ap (λ (x : List ℕ). (x ++ meaning) ++ answer)
      (behind ∙ ap (λ (f : Option ℕ). file_behind false f) its);
}

-- The frame of what is told is the refusal's.
pub told_frame : {V E : Type 0} (bytes : V → List ℕ) (r : Result V E) (e : OpeningFault)
    (number : ℕ) (name text slice shown : List ℕ) → number ≡ number_of e → name ≡ name_of e
    → IsTold e name text → slice ≡ text → shown ≡ slice
    → IfOk r (λ v. bytes v ≡ answer_frame (IsRefused number shown))
    → IfOk r (λ v. IsRefusalFrame e (bytes v))
told_frame bytes (Ok v) e number name text slice shown num nam told same read made = (
  text,
  (told.0, told.1, told.2 ∙ ap (λ (n : List ℕ). n ++ behind told.0) nam),
  made ∙ ap₂ (λ (n : ℕ) (t : List ℕ). answer_frame (IsRefused n t)) num (read ∙ same),
)
told_frame bytes (Err x) e number name text slice shown num nam told same read made = tt
