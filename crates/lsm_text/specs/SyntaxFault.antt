-- Where a word stops being one of its form: this project's rule.
use Rattle.std.specs.Prelude.{◌≡◌, ◌%◌, ◌⊎◌, ℕ, false, ⊤, List, [], ◌∷◌, ◌++◌, length, Option, Some}
use Rattle.std.specs.Prelude.{None}
use Rattle.std.specs.List.{AllPass}
use Rattle.hex.specs.Hex.{is_hex_digit}
use Rattle.lsm_text.specs.Spelling.{AreParts, IsPart}
use Rattle.lsm_text.specs.declared.form.Form.{Form}
use Rattle.lsm_text.specs.declared.form.Form.TheVariants.{Hex, Text}
use Rattle.lsm_text.specs.declared.syntax_fault.SyntaxFault.{SyntaxFault}

-- So far it may go on: hex digits, or whole parts of a text.
abbrev pub IsBegun : Form → List ℕ → Type 0
IsBegun Hex front = AllPass is_hex_digit front
IsBegun Text front = (bytes : List ℕ) × AreParts front bytes

-- No hex digit, or no part of a text, stands at the beginning of this.
abbrev pub IsStuck : Form → List ℕ → Type 0
IsStuck form [] = ⊤
IsStuck Hex (c ∷ cs) = is_hex_digit c ≡ false
IsStuck Text (c ∷ cs) = (b : ℕ) (part after : List ℕ) → c ∷ cs ≡ part ++ after → IsPart part b → ⊥

-- It may not end here: there is no word, which `.` would be, or a hex digit has no second one.
abbrev pub IsCutOff : Form → List ℕ → Type 0
IsCutOff Hex front = (length front ≡ 0) ⊎ (length front % 2 ≡ 1)
IsCutOff Text front = length front ≡ 0

-- The word goes on as one of this form up to here, and no further.
pub record Reaches (form : Form) (word rest : List ℕ) : Type 0 where
  pub front : List ℕ
  pub is : word ≡ front ++ rest
  pub begun : IsBegun form front
  pub stuck : IsStuck form rest

-- The byte that stands there is one that can't, or the word ends where it may not.
abbrev pub IsAt : Form → List ℕ → List ℕ → Option ℕ → Type 0
IsAt form front [] None = IsCutOff form front
IsAt form front [] (Some byte) = ⊥
IsAt form front (c ∷ cs) None = ⊥
IsAt form front (c ∷ cs) (Some byte) = byte ≡ c

-- The fault stands at the first place where the word stops being one of this form.
pub record IsSyntaxFault (form : Form) (word : List ℕ) (fault : SyntaxFault) : Type 0 where
  pub rest : List ℕ
  pub reached : Reaches form word rest
  pub before : fault.before ≡ length reached.front
  pub at : IsAt form reached.front rest fault.byte
  pub form_is : fault.form ≡ form
