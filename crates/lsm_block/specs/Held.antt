-- A block that is held, and a position in it.
use Rattle.std.specs.Prelude.{◌≡◌, ℕ, Bool, true, false, List, [], ◌∷◌, length, drop, Option, Some}
use Rattle.std.specs.Prelude.{None, Result, Ok, Err}
use Rattle.lsm_codec.specs.Keys.{InternalKey, IsKey, key_bytes, is_internal, key_at}
use Rattle.lsm_codec.specs.Entries.{Entry, internal_key}
use Rattle.lsm_block.specs.Block.{IsBlock, entry_of}
use Rattle.lsm_block.specs.declared.fault.BlockFault.{BlockFault}
use Rattle.lsm_block.specs.Reading.{parts_at, block_at}
use Rattle.lsm_block.specs.Seeking.{readable}

-- a block: its entries, and the text that spells them
pub record HeldBlock : Type 0 where
  pub text : List ℕ
  pub entries : List Entry

-- a position in a block: an offset in the text, and the key of the entry before it, if one was read
pub record Position : Type 0 where
  pub offset : ℕ
  pub last : Option InternalKey

abbrev pub bytes_of : Option InternalKey → List ℕ
bytes_of None = []
bytes_of (Some key) = key_bytes key

-- the entries of a block from a position on
abbrev pub rest_of : HeldBlock → Position → List Entry
rest_of block place = readable (length block.text) (bytes_of place.last)
    (drop place.offset block.text)

abbrev pub first_of : List Entry → Option Entry
first_of [] = None
first_of (e ∷ es) = Some e

-- the text and the entries that it spells
abbrev pub text_and_entries : List ℕ → HeldBlock
text_and_entries text = record { text = text; entries = readable (length text) [] text }

abbrev pub text_or_none : Option (List ℕ × List ℕ) → List ℕ
text_or_none None = []
text_or_none (Some parts) = parts.0

-- the block that bytes are
unfoldable pub block_in : List ℕ → HeldBlock
block_in bytes = text_and_entries (text_or_none (parts_at bytes))

-- the bytes are a block of the entries, whose text has this length
pub record Holds (bytes : List ℕ) (text_len : ℕ) (entries : List Entry) : Type 0 where
  pub block : IsBlock bytes entries
  pub text_len_is : text_len ≡ length block.text

-- the key that the bytes are, if they are one
abbrev pub last_if : Bool → List ℕ → Option InternalKey
last_if true bytes = Some (key_at bytes)
last_if false bytes = None

unfoldable pub last_of : List ℕ → Option InternalKey
last_of bytes = last_if (is_internal bytes) bytes

-- The bytes are those of the key, or there is none and no bytes.
abbrev pub Kept : Option InternalKey → List ℕ → Type 0
Kept None bytes = bytes ≡ []
Kept (Some key) bytes = IsKey bytes key

-- the key of the last of these entries, or this one where there is none
abbrev pub last_after : Option InternalKey → List Entry → Option InternalKey
last_after key [] = key
last_after key (e ∷ es) = last_after (Some (internal_key e)) es

-- What a step hands out: nothing where no entry is left, and the last key stays; and else the value
-- of the next entry, whose key is then the last.
abbrev pub Given : HeldBlock → Position → Position → Option (List ℕ) → Type 0
Given block old new None = (rest_of block old ≡ []) × (rest_of block new ≡ [])
    × (new.last ≡ old.last)
Given block old new (Some value) =
    (key : InternalKey) × (new.last ≡ Some key)
    × (rest_of block old ≡ entry_of key value ∷ rest_of block new)

abbrev pub or_none : Result (List Entry) BlockFault → List Entry
or_none (Ok es) = es
or_none (Err f) = []

-- the entries of the block that the bytes are, and none where they are no block
unfoldable pub held : List ℕ → List Entry
held bytes = or_none (block_at bytes)
