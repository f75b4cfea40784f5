-- Commands as lines: a name and then its words, where those for bytes are of one form. Scripts: one
-- command a line, in hex. This project's rule.
use Rattle.std.specs.Prelude.{◌≡◌, ℕ, ◌-◌, ◌^◌, ◌<◌, ◌≤◌, ⊤, List, [], ◌∷◌, length, take, get_or}
use Rattle.std.specs.Prelude.{codes, None, Some}
use Rattle.lsm_text.specs.EntryList.{lines_of}
use Rattle.lsm_script.specs.declared.command.Command.{Command}
use Rattle.lsm_script.specs.declared.command.Command.TheVariants.{Ingest, Get, Snapshot, Release}
use Rattle.lsm_script.specs.declared.command.Command.TheVariants.{Reserve, ReserveRange, Merge}
use Rattle.lsm_script.specs.declared.command.Command.TheVariants.{Install, Cancel, Pin, Unpin}
use Rattle.lsm_script.specs.declared.command.Command.TheVariants.{Collect, List as Listing}
use Rattle.lsm_script.specs.declared.script_text.ScriptFault.{ScriptFault}
use Rattle.lsm_script.specs.declared.script_text.ScriptFault.TheVariants.{BadLine, OutOfMemory}
use Rattle.lsm_text.specs.declared.form.Form.{Form}
use Rattle.lsm_text.specs.declared.form.Form.TheVariants.{Hex}
use Rattle.lsm_text.specs.BatchText.{AreWriteLines}
use Rattle.lsm_text.specs.Numbers.{IsNumberWord}
use Rattle.lsm_text.specs.Spelling.{IsWord}
use Rattle.lsm_script.specs.Words.{words_of}

-- a name and a number that is not above `most`
abbrev pub IsNumbered : List ℕ → ℕ → List (List ℕ) → ℕ → Type 0
IsNumbered name most words n =
    (word : List ℕ) × (words ≡ name ∷ word ∷ []) × IsNumberWord most word n

-- the greatest id, ticket or sequence
abbrev pub most : ℕ
most = 2 ^ 64 - 1

-- the words ask for the command
abbrev pub IsCommand : Form → List (List ℕ) → Command → Type 0
IsCommand form words (Ingest writes) =
    (keys : List (List ℕ)) × (words ≡ codes "ingest" ∷ keys) × AreWriteLines form keys writes
IsCommand form words (Get key None) =
    (k : List ℕ) × (words ≡ codes "get" ∷ k ∷ []) × IsWord form k key
IsCommand form words (Get key (Some id)) =
    (k : List ℕ) × (i : List ℕ) × (words ≡ codes "get" ∷ k ∷ i ∷ []) × IsWord form k key
    × IsNumberWord most i id
IsCommand form words Snapshot = words ≡ codes "snapshot" ∷ []
IsCommand form words (Release id) = IsNumbered (codes "release") most words id
IsCommand form words Reserve = words ≡ codes "reserve" ∷ []
IsCommand form words (ReserveRange level from to) =
    (l : List ℕ) × (f : List ℕ) × (t : List ℕ) × (words ≡ codes "reserve" ∷ l ∷ f ∷ t ∷ [])
    × IsNumberWord (2 ^ 8 - 1) l level × IsWord form f from × IsWord form t to
IsCommand form words (Merge ticket) = IsNumbered (codes "merge") most words ticket
IsCommand form words (Install ticket) = IsNumbered (codes "install") most words ticket
IsCommand form words (Cancel ticket) = IsNumbered (codes "cancel") most words ticket
IsCommand form words Pin = words ≡ codes "pin" ∷ []
IsCommand form words (Unpin id) = IsNumbered (codes "unpin") (2 ^ 32 - 1) words id
IsCommand form words Collect = words ≡ codes "collect" ∷ []
IsCommand form words Listing = words ≡ codes "list" ∷ []

-- The line spells the command.
abbrev pub IsCommandLine : Form → List ℕ → Command → Type 0
IsCommandLine form line command = IsCommand form (words_of line) command

-- a command of one word, its name
abbrev pub IsBare : Command → Type 0
IsBare Snapshot = ⊤
IsBare Reserve = ⊤
IsBare Pin = ⊤
IsBare Collect = ⊤
IsBare Listing = ⊤
IsBare command = ⊥

-- a command of its name and one number
abbrev pub HasNumber : Command → Type 0
HasNumber (Release id) = ⊤
HasNumber (Merge ticket) = ⊤
HasNumber (Install ticket) = ⊤
HasNumber (Cancel ticket) = ⊤
HasNumber (Unpin id) = ⊤
HasNumber command = ⊥

-- line by line
abbrev pub AreCommandLines : List (List ℕ) → List Command → Type 0
AreCommandLines [] [] = ⊤
AreCommandLines [] (c ∷ cs) = ⊥
AreCommandLines (l ∷ ls) [] = ⊥
AreCommandLines (l ∷ ls) (c ∷ cs) = IsCommandLine Hex l c × AreCommandLines ls cs

-- The text spells the commands.
abbrev pub IsScript : List ℕ → List Command → Type 0
IsScript text commands = AreCommandLines (lines_of text) commands

-- Line i, counted from 1, is the first that spells no command.
pub record IsFirstBadLine (text : List ℕ) (i : ℕ) : Type 0 where
  pub from_one : 0 < i
  pub within : i ≤ length (lines_of text)
  pub good : (commands : List Command) × AreCommandLines (take (i - 1) (lines_of text)) commands
  pub bad : (command : Command) → IsCommandLine Hex (get_or (lines_of text) (i - 1) []) command → ⊥

-- What a fault says of a text that is no script. Want of memory says nothing of it.
abbrev pub IsScriptFault : List ℕ → ScriptFault → Type 0
IsScriptFault text OutOfMemory = ⊤
IsScriptFault text (BadLine i) = IsFirstBadLine text i
