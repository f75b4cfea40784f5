-- A text list of entries, as `lsm mktable` reads it and `lsm dump` prints it: this project's rule.
-- One entry a line, `KEY SEQ put VALUE` or `KEY SEQ del`, in the order of tables.
use Rattle.std.specs.Prelude.{◌≡◌, ℕ, ◌-◌, ◌^◌, ◌<◌, ◌≤◌, ◌==◌, ⊤, cond, List, [], ◌∷◌, ◌++◌}
use Rattle.std.specs.Prelude.{length, take, codes, Ok}
use Rattle.hex.specs.Hex.{decode_of}
use Rattle.lsm_batch.specs.Limits.{most_key, most_value}
use Rattle.lsm_codec.specs.declared.kind.Kind.{Kind}
use Rattle.lsm_codec.specs.declared.kind.Kind.TheVariants.{Deletion, Value}
use Rattle.lsm_codec.specs.Entries.{Entry}
use Rattle.lsm_text.specs.Numbers.{IsNumberWord}
use Rattle.lsm_block.specs.Block.{Ascends}

abbrev pub with_first : ℕ → List (List ℕ) → List (List ℕ)
with_first c [] = (c ∷ []) ∷ []
with_first c (line ∷ lines) = (c ∷ line) ∷ lines

-- the lines of a text: each ends at a newline, which the last may lack
unfoldable pub lines_of : List ℕ → List (List ℕ)
lines_of [] = []
lines_of (c ∷ cs) = cond (c == 10) ([] ∷ lines_of cs) (with_first c (lines_of cs))

-- a word for bytes: two hex digits of either case a byte, or `.` for no bytes
abbrev pub IsBytesWord : List ℕ → List ℕ → Type 0
IsBytesWord word [] = word ≡ codes "."
IsBytesWord word (b ∷ bs) = decode_of word ≡ Ok (b ∷ bs)

-- a word for a sequence: 1 to 20 decimal digits
pub record IsSequenceWord (word : List ℕ) (seq : ℕ) : Type 0 where
  pub number : IsNumberWord (2 ^ 56 - 1) word seq
  pub short : length word ≤ 20

-- what stands after the sequence: `put` and a value, or `del`
abbrev pub IsAction : List ℕ → Kind → List ℕ → Type 0
IsAction action Deletion value = (action ≡ codes "del") × (value ≡ [])
IsAction action Value value =
    (word : List ℕ) × (action ≡ codes "put " ++ word) × IsBytesWord word value
    × (length value ≤ most_value)

-- The line spells the entry. One space (32) parts two words.
pub record IsEntryLine (line : List ℕ) (entry : Entry) : Type 0 where
  pub key_word : List ℕ
  pub sequence_word : List ℕ
  pub action : List ℕ
  pub line_is : line ≡ key_word ++ (32 ∷ (sequence_word ++ (32 ∷ action)))
  pub key : IsBytesWord key_word entry.user
  pub key_fits : length entry.user ≤ most_key
  pub sequence : IsSequenceWord sequence_word entry.seq
  pub acts : IsAction action entry.kind entry.value

-- line by line
abbrev pub AreEntryLines : List (List ℕ) → List Entry → Type 0
AreEntryLines [] [] = ⊤
AreEntryLines [] (e ∷ es) = ⊥
AreEntryLines (l ∷ ls) [] = ⊥
AreEntryLines (l ∷ ls) (e ∷ es) = IsEntryLine l e × AreEntryLines ls es

-- The lines are a list of the entries.
pub record AreEntries (lines : List (List ℕ)) (entries : List Entry) : Type 0 where
  pub spelled : AreEntryLines lines entries
  pub ascending : Ascends entries

-- The text is a list of the entries.
abbrev pub IsEntryList : List ℕ → List Entry → Type 0
IsEntryList text entries = AreEntries (lines_of text) entries

-- Line i, counted from 1, is the first that makes the text no list: those before it are one, and
-- with it they are none.
pub record IsFirstBadLine (text : List ℕ) (i : ℕ) : Type 0 where
  pub from_one : 0 < i
  pub within : i ≤ length (lines_of text)
  pub good : (entries : List Entry) × AreEntries (take (i - 1) (lines_of text)) entries
  pub bad : (entries : List Entry) → AreEntries (take i (lines_of text)) entries → ⊥
