-- A batch as text: this project's rule. One key a line, `KEY=VALUE` for its new value or `KEY!`
-- where it is deleted; KEY and VALUE are words of one form, hex or text.
use Rattle.std.specs.Prelude.{◌≡◌, ℕ, ◌-◌, ◌<◌, ◌≤◌, ⊤, List, [], ◌∷◌, ◌++◌, length, take, get_or}
use Rattle.std.specs.Prelude.{codes, Option, None, Some}
use Rattle.lsm_batch.specs.declared.write.Write.{Write}
use Rattle.lsm_text.specs.EntryList.{lines_of}
use Rattle.lsm_text.specs.Spelling.{IsWord}
use Rattle.lsm_text.specs.declared.batch_text.BatchTextFault.{BatchTextFault}
use Rattle.lsm_text.specs.declared.batch_text.BatchTextFault.TheVariants.{BadLine, OutOfMemory}
use Rattle.lsm_text.specs.declared.form.Form.{Form}

-- what stands after the key: `=` (61) and the new value, or `!`
abbrev pub IsValuePart : Form → List ℕ → Option (List ℕ) → Type 0
IsValuePart form part None = part ≡ codes "!"
IsValuePart form part (Some value) = (word : List ℕ) × (part ≡ 61 ∷ word) × IsWord form word value

-- the two parts of a line spell what is written
abbrev pub Spell : Form → List ℕ → List ℕ → Write → Type 0
Spell form key_word part w = IsWord form key_word w.key × IsValuePart form part w.value

-- The line spells what is written of a key.
pub record IsWriteLine (form : Form) (line : List ℕ) (w : Write) : Type 0 where
  pub key_word : List ℕ
  pub part : List ℕ
  pub line_is : line ≡ key_word ++ part
  pub spelled : Spell form key_word part w

-- line by line
abbrev pub AreWriteLines : Form → List (List ℕ) → List Write → Type 0
AreWriteLines form [] [] = ⊤
AreWriteLines form [] (w ∷ ws) = ⊥
AreWriteLines form (l ∷ ls) [] = ⊥
AreWriteLines form (l ∷ ls) (w ∷ ws) = IsWriteLine form l w × AreWriteLines form ls ws

-- The text spells the batch.
abbrev pub IsBatchText : Form → List ℕ → List Write → Type 0
IsBatchText form text ws = AreWriteLines form (lines_of text) ws

-- Line i, counted from 1, is the first that spells no write.
pub record IsFirstBadLine (form : Form) (text : List ℕ) (i : ℕ) : Type 0 where
  pub from_one : 0 < i
  pub within : i ≤ length (lines_of text)
  pub good : (ws : List Write) × AreWriteLines form (take (i - 1) (lines_of text)) ws
  pub bad : (w : Write) → IsWriteLine form (get_or (lines_of text) (i - 1) []) w → ⊥

-- What a fault says of the text. Want of memory says nothing of it.
abbrev pub IsBatchTextFault : Form → List ℕ → BatchTextFault → Type 0
IsBatchTextFault form text OutOfMemory = ⊤
IsBatchTextFault form text (BadLine i fault) = IsFirstBadLine form text i
