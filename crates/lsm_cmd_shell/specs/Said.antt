-- What is said to a line (this project's rule).
use Rattle.std.specs.Prelude.{◌≡◌, ⊤, ℕ, List, [], ◌∷◌, Option}
use Rattle.std.specs.List.{flat_map}
use Rattle.std.specs.Io.KnownBytes.{Appends}
use Rattle.lsm_cmd_shell.specs.declared.outcome.Outcome.{Outcome}
use Rattle.lsm_cmd_shell.specs.declared.outcome.Outcome.TheVariants.{Done, Failed}

-- its text, and how the line was answered
pub record Said : Type 0 where
  pub text : List ℕ
  pub outcome : Outcome

abbrev pub saying : List ℕ → Outcome → Said
saying text outcome = record { text = text; outcome = outcome }

abbrev pub done : List ℕ → Said
done text = saying text Done

abbrev pub failed : List ℕ → Said
failed text = saying text Failed

-- this was written, and so the line was answered
abbrev pub IsTold : Said → (old new : Option (List ℕ)) → Outcome → Type 0
IsTold said old new outcome = Appends old new said.text × (outcome ≡ said.outcome)

-- ---- line after line

-- all that was said
abbrev pub texts_of : List Said → List ℕ
texts_of said = flat_map (λ one. one.text) said

abbrev pub worse : Outcome → Outcome → Outcome
worse Failed outcome = Failed
worse Done outcome = outcome

-- `Failed` where one of the lines failed
abbrev pub outcome_of : List Said → Outcome
outcome_of [] = Done
outcome_of (one ∷ rest) = worse one.outcome (outcome_of rest)

-- no line failed before the last one
abbrev pub StopsAtFirst : List Said → Type 0
StopsAtFirst [] = ⊤
StopsAtFirst (one ∷ []) = ⊤
StopsAtFirst (one ∷ next ∷ rest) = (one.outcome ≡ Done) × StopsAtFirst (next ∷ rest)
