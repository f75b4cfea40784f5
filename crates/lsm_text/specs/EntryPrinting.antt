-- The text that `lsm dump` prints for entries: lower case, no leading zeros, a newline after each
-- line.
use Rattle.std.specs.Prelude.{◌≡◌, ℕ, ◌^◌, ◌<◌, ◌≤◌, List, [], ◌∷◌, ◌++◌, length, codes, decimal}
use Rattle.std.specs.List.{flat_map}
use Rattle.hex.specs.Hex.{encode_lower, IsBytes}
use Rattle.lsm_codec.specs.declared.kind.Kind.{Kind}
use Rattle.lsm_codec.specs.declared.kind.Kind.TheVariants.{Deletion, Value}
use Rattle.lsm_codec.specs.Entries.{Entry}
use Rattle.lsm_batch.specs.Limits.{most_key, most_value}

abbrev pub bytes_word : List ℕ → List ℕ
bytes_word [] = codes "."
bytes_word (b ∷ bs) = encode_lower (b ∷ bs)

abbrev pub action_text : Kind → List ℕ → List ℕ
action_text Deletion value = codes "del"
action_text Value value = codes "put " ++ bytes_word value

-- what stands behind the sequence
abbrev pub action_line : Kind → List ℕ → List ℕ
action_line kind value = 32 ∷ (action_text kind value ++ (10 ∷ []))

unfoldable pub entry_line : Entry → List ℕ
entry_line e = bytes_word e.user ++ (32 ∷ (decimal e.seq ++ action_line e.kind e.value))

unfoldable pub entry_list : List Entry → List ℕ
entry_list entries = flat_map entry_line entries

-- a deletion has no value
abbrev pub IsPlainValue : Kind → List ℕ → Type 0
IsPlainValue Deletion value = value ≡ []
IsPlainValue Value value = (length value ≤ most_value) × IsBytes value

-- an entry that a line can spell
pub record IsListable (e : Entry) : Type 0 where
  pub key_fits : length e.user ≤ most_key
  pub key_bytes : IsBytes e.user
  pub seq_fits : e.seq < 2 ^ 56
  pub plain : IsPlainValue e.kind e.value
