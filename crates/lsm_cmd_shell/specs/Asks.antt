-- The lines of a conversation: those of a script, and some more (this project's rule). Words for
-- bytes are of one form.
use Rattle.std.specs.Prelude.{◌≡◌, ◌≢◌, ◌⊎◌, ℕ, ◌-◌, ◌^◌, ⊤, List, [], ◌∷◌, ◌++◌, ◌≤◌, length}
use Rattle.std.specs.Prelude.{get_or, codes, Option, None, Some}
use Rattle.lsm_batch.specs.declared.write.Write.{Write}
use Rattle.lsm_text.specs.Numbers.{IsNumberWord}
use Rattle.lsm_text.specs.Spelling.{IsWord}
use Rattle.lsm_text.specs.declared.form.Form.{Form}
use Rattle.lsm_requests.specs.declared.key_bounds.KeyBounds.{KeyBounds}
use Rattle.lsm_script.specs.CommandLine.{IsCommandLine}
use Rattle.lsm_script.specs.Words.{words_of}
use Rattle.lsm_cmd_shell.specs.declared.ask.Ask.{Ask}
use Rattle.lsm_cmd_shell.specs.declared.ask.Ask.TheVariants.{Do, Put, Scan, Begin, Commit, Abort}
use Rattle.lsm_cmd_shell.specs.declared.ask.Ask.TheVariants.{Compact, Stats, Help}

-- ---- one write

-- `put KEY VALUE`
pub record IsPut (form : Form) (words : List (List ℕ)) (w : Write) : Type 0 where
  pub key_word : List ℕ
  pub value_word : List ℕ
  pub bytes : List ℕ
  pub words_are : words ≡ codes "put" ∷ key_word ∷ value_word ∷ []
  pub key : IsWord form key_word w.key
  pub value : w.value ≡ Some bytes
  pub spelled : IsWord form value_word bytes

-- `delete KEY`
pub record IsDelete (form : Form) (words : List (List ℕ)) (w : Write) : Type 0 where
  pub key_word : List ℕ
  pub words_are : words ≡ codes "delete" ∷ key_word ∷ []
  pub key : IsWord form key_word w.key
  pub none : w.value ≡ None

-- either
abbrev pub IsOneWrite : Form → List (List ℕ) → Write → Type 0
IsOneWrite form words w = IsPut form words w ⊎ IsDelete form words w

-- ---- scans

-- `[FROM [TO]]`; where both stand, FROM is not the word `limit`
abbrev pub AreEnds : Form → List (List ℕ) → KeyBounds → Type 0
AreEnds form [] b = (b.from ≡ None) × (b.to ≡ None) × (b.prefix ≡ None)
AreEnds form (f ∷ []) b = (from : List ℕ) × (b.from ≡ Some from) × (b.to ≡ None)
    × IsWord form f from × (b.prefix ≡ None)
AreEnds form (f ∷ t ∷ []) b =
    (from : List ℕ) × (to : List ℕ) × (b.from ≡ Some from) × (b.to ≡ Some to) × (f ≢ codes "limit")
    × IsWord form f from × IsWord form t to × (b.prefix ≡ None)
AreEnds form (f ∷ t ∷ w ∷ ws) b = ⊥

-- `[limit N]`
abbrev pub IsLimit : List (List ℕ) → Option ℕ → Type 0
IsLimit tail None = tail ≡ []
IsLimit tail (Some n) = (word : List ℕ) × (tail ≡ codes "limit" ∷ word ∷ [])
    × IsNumberWord (2 ^ 64 - 1) word n

-- the last word but one is `limit`
abbrev pub HasLimit : List (List ℕ) → Type 0
HasLimit words = (2 ≤ length words) × (get_or words (length words - 2) [] ≡ codes "limit")

-- both, one behind the other
pub record IsScanRest (form : Form) (rest : List (List ℕ)) (bounds : KeyBounds) (limit : Option ℕ)
    : Type 0 where
  pub ends : List (List ℕ)
  pub tail : List (List ℕ)
  pub words_are : rest ≡ ends ++ tail
  pub are_ends : AreEnds form ends bounds
  pub is_limit : IsLimit tail limit

-- `scan [FROM [TO]] [limit N]`
abbrev pub IsScanWords : Form → List (List ℕ) → KeyBounds → Option ℕ → Type 0
IsScanWords form words bounds limit =
    (rest : List (List ℕ)) × (words ≡ codes "scan" ∷ rest) × IsScanRest form rest bounds limit

-- ---- any line

-- The line asks for this. `quit` asks for nothing.
abbrev pub IsAsk : Form → List ℕ → Ask → Type 0
IsAsk form line (Do c) = IsCommandLine form line c
IsAsk form line (Put w) = IsOneWrite form (words_of line) w
IsAsk form line (Scan bounds limit) = IsScanWords form (words_of line) bounds limit
IsAsk form line Begin = line ≡ codes "begin"
IsAsk form line Commit = line ≡ codes "commit"
IsAsk form line Abort = line ≡ codes "abort"
IsAsk form line Compact = line ≡ codes "compact"
IsAsk form line Stats = line ≡ codes "stats"
IsAsk form line Help = line ≡ codes "help"

-- what one word asks for that is none of a script
abbrev pub IsBare : Ask → Type 0
IsBare (Do c) = ⊥
IsBare (Put w) = ⊥
IsBare (Scan bounds limit) = ⊥
IsBare ask = ⊤

-- what several words ask for that are none of a script: one write, or a scan
abbrev pub IsOther : Form → List ℕ → Ask → Type 0
IsOther form line (Put w) = IsOneWrite form (words_of line) w
IsOther form line (Scan bounds limit) = IsScanWords form (words_of line) bounds limit
IsOther form line ask = ⊥
