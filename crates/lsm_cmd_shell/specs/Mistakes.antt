-- What is wrong with a line that asks for nothing: the first of its words that is not as a line of
-- its name wants it there (this project's rule).
use Rattle.std.specs.Prelude.{◌≡◌, ◌⊎◌, ◌↔◌, ℕ, ◌+◌, ◌-◌, ◌^◌, ◌==◌, ◌||◌, nat_lt, Bool, true}
use Rattle.std.specs.Prelude.{false, if◌then◌else◌, IsTrue, MatchBool, List, [], ◌∷◌, length}
use Rattle.std.specs.Prelude.{get_or, codes, replicate, Option, None, Some}
use Rattle.std.specs.Str.{bytes_eq}
use Rattle.lsm_batch.specs.declared.write.Write.{Write}
use Rattle.lsm_text.specs.BatchText.{IsWriteLine}
use Rattle.lsm_text.specs.Numbers.{IsNumberWord}
use Rattle.lsm_text.specs.Spelling.{IsWord}
use Rattle.lsm_text.specs.SyntaxFault.{IsSyntaxFault}
use Rattle.lsm_text.specs.declared.form.Form.{Form}
use Rattle.lsm_text.specs.declared.form.Form.TheVariants.{Hex, Text}
use Rattle.lsm_text.specs.declared.syntax_fault.SyntaxFault.{SyntaxFault}
use Rattle.lsm_script.specs.Words.{words_of}
use Rattle.lsm_cmd_shell.specs.declared.line_kind.LineKind.{LineKind}
use Rattle.lsm_cmd_shell.specs.declared.line_kind.LineKind.TheVariants.{Alone, Put, Delete, Get}
use Rattle.lsm_cmd_shell.specs.declared.line_kind.LineKind.TheVariants.{Scan, Ingest, Release}
use Rattle.lsm_cmd_shell.specs.declared.line_kind.LineKind.TheVariants.{Reserve, Job, Unpin}
use Rattle.lsm_cmd_shell.specs.declared.want.Want.{Want}
use Rattle.lsm_cmd_shell.specs.declared.want.Want.TheVariants.{Key, Value, From, FromBeside, To}
use Rattle.lsm_cmd_shell.specs.declared.want.Want.TheVariants.{KeyWrite, Limit, Count, Snapshot}
use Rattle.lsm_cmd_shell.specs.declared.want.Want.TheVariants.{Pin, Ticket, Level}
use Rattle.lsm_cmd_shell.specs.declared.mistake.Wrong.{Wrong}
use Rattle.lsm_cmd_shell.specs.declared.mistake.Wrong.TheVariants.{Missing, Extra, NoBytes}
use Rattle.lsm_cmd_shell.specs.declared.mistake.Wrong.TheVariants.{NoNumber, NoWrite, IsLimit}
use Rattle.lsm_cmd_shell.specs.declared.mistake.Mistake.{Mistake}
use Rattle.lsm_cmd_shell.specs.declared.mistake.Mistake.TheVariants.{Blank, Return, Word}

-- ---- which line a name begins

-- one that wants no other word
unfoldable pub is_alone : List ℕ → Bool
is_alone name =
    bytes_eq name (codes "begin") || bytes_eq name (codes "commit") || bytes_eq name (codes "abort")
    || bytes_eq name (codes "snapshot") || bytes_eq name (codes "compact")
    || bytes_eq name (codes "pin") || bytes_eq name (codes "collect")
    || bytes_eq name (codes "stats") || bytes_eq name (codes "list")
    || bytes_eq name (codes "help") || bytes_eq name (codes "quit")

-- one of keys
unfoldable pub kind_of_pair : List ℕ → Option LineKind
kind_of_pair name =
    if bytes_eq name (codes "put") then Some Put
    else if bytes_eq name (codes "delete") then Some Delete
    else if bytes_eq name (codes "get") then Some Get
    else if bytes_eq name (codes "scan") then Some Scan
    else if bytes_eq name (codes "ingest") then Some Ingest
    else None

-- one of snapshots, jobs and pins
unfoldable pub kind_of_job : List ℕ → Option LineKind
kind_of_job name =
    if bytes_eq name (codes "release") then Some Release
    else if bytes_eq name (codes "reserve") then Some Reserve
    else if bytes_eq name (codes "merge") then Some Job
    else if bytes_eq name (codes "install") then Some Job
    else if bytes_eq name (codes "cancel") then Some Job
    else if bytes_eq name (codes "unpin") then Some Unpin
    else None

abbrev pub first_of : Option LineKind → Option LineKind → Option LineKind
first_of (Some kind) other = Some kind
first_of None other = other

unfoldable pub kind_of : List ℕ → Option LineKind
kind_of name = if is_alone name then Some Alone else first_of (kind_of_pair name) (kind_of_job name)

-- ---- what a line wants behind its name

-- the last word but one is `limit`
unfoldable pub ends_by_limit : List (List ℕ) → Bool
ends_by_limit words =
    if nat_lt (length words) 2 then false
    else bytes_eq (get_or words (length words - 2) []) (codes "limit")

-- `[FROM [TO]] [limit N]`, by how many words there are. Where all four stand FROM is not `limit`.
unfoldable pub scan_wants : (limited : Bool) → ℕ → List Want
scan_wants true count =
    if count == 2 then Limit ∷ Count ∷ []
    else if count == 3 then From ∷ Limit ∷ Count ∷ []
    else if count == 4 then FromBeside ∷ To ∷ Limit ∷ Count ∷ []
    else From ∷ To ∷ []
scan_wants false count =
    if count == 0 then []
    else if count == 1 then From ∷ []
    else From ∷ To ∷ []

-- by the words that stand there: ID, and `LEVEL FROM TO`, may be left out
abbrev pub wants_of : LineKind → List (List ℕ) → List Want
wants_of Alone words = []
wants_of Put words = Key ∷ Value ∷ []
wants_of Delete words = Key ∷ []
wants_of Get words = if nat_lt (length words) 2 then Key ∷ [] else Key ∷ Snapshot ∷ []
wants_of Scan words = scan_wants (ends_by_limit words) (length words)
wants_of Ingest words = replicate (length words) KeyWrite
wants_of Release words = Snapshot ∷ []
wants_of Reserve words = if length words == 0 then [] else Level ∷ From ∷ To ∷ []
wants_of Job words = Ticket ∷ []
wants_of Unpin words = Pin ∷ []

-- ---- a word that is not as it is wanted

-- the greatest number that may stand there
abbrev pub most_of : Want → ℕ
most_of Level = 2 ^ 8 - 1
most_of Pin = 2 ^ 32 - 1
most_of want = 2 ^ 64 - 1

-- a word that was read in hex spells bytes as text
abbrev pub IsTextInstead : Form → List ℕ → Type 0
IsTextInstead Hex word = (bytes : List ℕ) × IsWord Text word bytes
IsTextInstead Text word = ⊥

-- It spells no bytes, and the fault stands at the first place where that is seen.
pub record IsNoBytes (form : Form) (want : Want) (word : List ℕ) (wrong : Wrong) : Type 0 where
  pub fault : SyntaxFault
  pub text : Bool
  pub is : wrong ≡ NoBytes want fault text
  pub place : IsSyntaxFault form word fault
  pub none : (bytes : List ℕ) → IsWord form word bytes → ⊥
  pub instead : IsTrue text ↔ IsTextInstead form word

-- It spells no bytes, or it is the word `limit`.
abbrev pub IsNoFrom : Form → List ℕ → Wrong → Type 0
IsNoFrom form word wrong = IsNoBytes form FromBeside word wrong
    ⊎ (((other : Wrong) → IsNoBytes form FromBeside word other → ⊥) × (word ≡ codes "limit")
    × (wrong ≡ IsLimit))

-- It writes no number that may stand there.
abbrev pub IsNoNumber : Want → List ℕ → Wrong → Type 0
IsNoNumber want word wrong =
    (wrong ≡ NoNumber want) × ((n : ℕ) → IsNumberWord (most_of want) word n → ⊥)

-- a word that was read in hex is `KEY=VALUE` or `KEY!` as text
abbrev pub IsTextWrite : Form → List ℕ → Type 0
IsTextWrite Hex word = (w : Write) × IsWriteLine Text word w
IsTextWrite Text word = ⊥

-- It is neither `KEY=VALUE` nor `KEY!`.
pub record IsNoWrite (form : Form) (word : List ℕ) (wrong : Wrong) : Type 0 where
  pub text : Bool
  pub is : wrong ≡ NoWrite form text
  pub none : (w : Write) → IsWriteLine form word w → ⊥
  pub instead : IsTrue text ↔ IsTextWrite form word

abbrev pub IsWrongWord : Form → Want → List ℕ → Wrong → Type 0
IsWrongWord form Key word wrong = IsNoBytes form Key word wrong
IsWrongWord form Value word wrong = IsNoBytes form Value word wrong
IsWrongWord form From word wrong = IsNoBytes form From word wrong
IsWrongWord form FromBeside word wrong = IsNoFrom form word wrong
IsWrongWord form To word wrong = IsNoBytes form To word wrong
IsWrongWord form KeyWrite word wrong = IsNoWrite form word wrong
IsWrongWord form Limit word wrong = ⊥
IsWrongWord form Count word wrong = IsNoNumber Count word wrong
IsWrongWord form Snapshot word wrong = IsNoNumber Snapshot word wrong
IsWrongWord form Pin word wrong = IsNoNumber Pin word wrong
IsWrongWord form Ticket word wrong = IsNoNumber Ticket word wrong
IsWrongWord form Level word wrong = IsNoNumber Level word wrong

-- ---- the first of them

-- Word by word, where `n` is the number of the first: one that is not as it is wanted, one too many
-- or one too few.
abbrev pub IsFirstWrong : Form → ℕ → List Want → List (List ℕ) → Mistake → Type 0
IsFirstWrong form n [] [] m = ⊥
IsFirstWrong form n [] (word ∷ words) m = m ≡ Word n Extra
IsFirstWrong form n (want ∷ wants) [] m = m ≡ Word n (Missing want)
IsFirstWrong form n (want ∷ wants) (word ∷ words) m =
    ((wrong : Wrong) × (m ≡ Word n wrong) × IsWrongWord form want word wrong)
    ⊎ (((wrong : Wrong) → IsWrongWord form want word wrong → ⊥)
    × IsFirstWrong form (n + 1) wants words m)

-- behind the name of such a line
abbrev pub IsBehind : Form → Option LineKind → List (List ℕ) → Mistake → Type 0
IsBehind form None words m = ⊥
IsBehind form (Some kind) words m = IsFirstWrong form 2 (wants_of kind words) words m

-- by the line's words
abbrev pub IsWordMistake : Form → List (List ℕ) → Mistake → Type 0
IsWordMistake form [] m = ⊥
IsWordMistake form (name ∷ words) m = IsBehind form (kind_of name) words m

-- ---- a line

-- with a blank (32)
abbrev pub begins_blank : List ℕ → Bool
begins_blank line = get_or line 0 0 == 32

-- with a carriage return (13)
abbrev pub ends_in_return : List ℕ → Bool
ends_in_return line = get_or line (length line - 1) 0 == 13

-- What is wrong with the line: one mistake, or none where its first word is the name of no line.
abbrev pub IsMistake : Form → List ℕ → Mistake → Type 0
IsMistake form line m =
    MatchBool (begins_blank line) (m ≡ Blank)
    (MatchBool (ends_in_return line) (m ≡ Return) (IsWordMistake form (words_of line) m))
