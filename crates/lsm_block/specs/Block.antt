-- What a block is: its entries one after another, then the restart offsets and their number
-- (LevelDB's `table/block_builder.cc`; the keys are those of `db/dbformat.h`).
use Rattle.std.specs.Prelude.{◌≡◌, ℕ, zero, suc, ◌+◌, ◌^◌, ◌<◌, ◌≤◌, List, [], ◌∷◌, ◌++◌, length}
use Rattle.std.specs.Prelude.{take, Contains}
use Rattle.std.specs.List.{flat_map, AllByRecursion}
use Rattle.std.specs.Int.{w32, to_le_bytes}
use Rattle.std.specs.declared.cmp.Ordering.TheVariants.{Less}
use Rattle.lsm_codec.specs.Varint.{IsVarint32}
use Rattle.lsm_codec.specs.Keys.{InternalKey, key_bytes}
use Rattle.lsm_codec.specs.Entries.{Entry, internal_key, entry_cmp}

-- the entry of an internal key and a value
abbrev pub entry_of : InternalKey → List ℕ → Entry
entry_of key value = record { user = key.user; seq = key.seq; kind = key.kind; value = value }

-- the bytes of an entry's internal key
abbrev pub key_text : Entry → List ℕ
key_text e = key_bytes (internal_key e)

-- The text of an entry that shares so many bytes of its key with the key before it: how many these
-- are, how many bytes its key has beyond them and how many its value, each as a varint32, then
-- these bytes of the key, and the value.
pub record EntryText (before : List ℕ) (entry : Entry) (shared : ℕ) (text : List ℕ) : Type 0 where
  pub shared_text : List ℕ
  pub unshared_text : List ℕ
  pub length_text : List ℕ
  pub unshared : List ℕ
  pub shared_is : IsVarint32 shared_text shared
  pub unshared_is : IsVarint32 unshared_text (length unshared)
  pub length_is : IsVarint32 length_text (length entry.value)
  pub within : shared ≤ length before
  pub key_is : take shared before ++ unshared ≡ key_text entry
  pub seq_fits : entry.seq < 2 ^ 56
  pub text_is : text ≡ shared_text ++ (unshared_text ++ (length_text ++ (unshared ++ entry.value)))

-- where an entry stands, if it shares nothing
abbrev pub start_at : ℕ → ℕ → List ℕ
start_at zero offset = offset ∷ []
start_at (suc shared) offset = []

-- The text from the offset on spells the entries one after another, the first of them after the key
-- before, and these are the starts of those that share nothing.
abbrev pub Spells : ℕ → List ℕ → List ℕ → List ℕ → List Entry → Type 0
Spells offset before text starts [] = (text ≡ []) × (starts ≡ [])
Spells offset before text starts (entry ∷ entries) =
    (shared : ℕ) × (own : List ℕ) × (rest : List ℕ) × (others : List ℕ)
    × EntryText before entry shared own × (text ≡ own ++ rest)
    × (starts ≡ start_at shared offset ++ others)
    × Spells (offset + length own) (key_text entry) rest others entries

-- each entry before the next
abbrev pub Ascends : List Entry → Type 0
Ascends [] = Unit {0}
Ascends (a ∷ []) = Unit {0}
Ascends (a ∷ b ∷ rest) = (entry_cmp a b ≡ Less) × Ascends (b ∷ rest)

-- restart offsets that rise strictly from one on, each the start of an entry that shares nothing
abbrev pub Rises : List ℕ → ℕ → List ℕ → Type 0
Rises starts before [] = Unit {0}
Rises starts before (offset ∷ offsets) =
    (before < offset) × Contains starts offset × Rises starts offset offsets

-- The bytes are a block of the entries. The restarts are those after the first, whose offset is 0;
-- each stands as a fixed32, and their number after them as a fixed32 too.
pub record IsBlock (bytes : List ℕ) (entries : List Entry) : Type 0 where
  pub text : List ℕ
  pub starts : List ℕ
  pub restarts : List ℕ
  pub spelled : Spells 0 [] text starts entries
  pub ascends : Ascends entries
  pub rises : Rises starts 0 restarts
  pub fits : AllByRecursion (λ offset. offset < 2 ^ 32) restarts
  pub count_fits : length restarts + 1 < 2 ^ 32
  pub bytes_are : bytes ≡ text ++ (flat_map (to_le_bytes w32) (0 ∷ restarts)
      ++ to_le_bytes w32 (length restarts + 1))
