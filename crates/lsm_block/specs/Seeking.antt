-- Reading a block from a place on, and the first entry not below a key.
use Rattle.std.specs.Prelude.{◌≡◌, ℕ, zero, suc, ◌*◌, ◌/◌, ◌^◌, ◌<◌, ◌⊎◌, Bool, true, false, List}
use Rattle.std.specs.Prelude.{[], ◌∷◌, length, take, drop, Option, Some, None}
use Rattle.std.specs.List.{flat_map, AllByRecursion}
use Rattle.std.specs.Ordering.{is_lt}
use Rattle.std.specs.Int.{w32, to_le_bytes, from_le_bytes}
use Rattle.lsm_codec.specs.Keys.{InternalKey, key_bytes, key_cmp, is_internal, key_at}
use Rattle.lsm_codec.specs.Entries.{Entry, internal_key}
use Rattle.lsm_block.specs.Block.{entry_of, Spells, Ascends, Rises}
use Rattle.lsm_block.specs.Reading.{Piece, entry_at, entry}

abbrev pub read_on : (List ℕ → List ℕ → List Entry) → Option (Piece × List ℕ) → List Entry
read_on later None = []
read_on later (Some found) = entry found.0 ∷ later found.0.key found.1

-- the entries that can be read from the front of a text on, after the key before it; the count is
-- no less than they are
unfoldable pub readable : ℕ → List ℕ → List ℕ → List Entry
readable zero before text = []
readable (suc count) before text = read_on (readable count) (entry_at before text)

abbrev pub drop_if : Bool → List Entry → List Entry → List Entry
drop_if true later all = later
drop_if false later all = all

-- from the first entry on whose key is not below this one
unfoldable pub not_below : InternalKey → List Entry → List Entry
not_below key [] = []
not_below key (e ∷ es) = drop_if (is_lt (key_cmp (internal_key e) key)) (not_below key es) (e ∷ es)

-- the number at this place of a row of numbers of four bytes
abbrev pub word_of : List ℕ → ℕ → ℕ
word_of bytes i = from_le_bytes w32 (take 4 (drop (4 * i) bytes))

-- the text and the restart bytes of a block of the entries
pub record ArePartsOf (text offsets : List ℕ) (entries : List Entry) : Type 0 where
  pub starts : List ℕ
  pub restarts : List ℕ
  pub spelled : Spells 0 [] text starts entries
  pub ascends : Ascends entries
  pub rises : Rises starts 0 restarts
  pub fits : AllByRecursion (λ offset. offset < 2 ^ 32) restarts
  pub offsets_are : offsets ≡ flat_map (to_le_bytes w32) (0 ∷ restarts)

abbrev pub found_below : InternalKey → Option (Piece × List ℕ) → Bool
found_below key None = false
found_below key (Some found) = is_lt (key_cmp (key_at found.0.key) key)

-- whether an entry can be read at this offset that follows no key, and its key is below this one
abbrev pub starts_below : List ℕ → ℕ → InternalKey → Bool
starts_below text offset key = found_below key (entry_at [] (drop offset text))

-- From here on a search may read: the offset is a restart's, and the entry there stands before the
-- key, unless the restart is the first.
pub record StartsSearch (text offsets : List ℕ) (key : InternalKey) (offset : ℕ) : Type 0 where
  pub index : ℕ
  pub within : index < length offsets / 4
  pub is : word_of offsets index ≡ offset
  pub below : (index ≡ 0) ⊎ (starts_below text offset key ≡ true)

-- What a step from an offset and the key before it to others reads: nothing where no entry is left,
-- and else an entry of this value whose key is the next one's key before.
abbrev pub Steps : List ℕ → ℕ → List ℕ → ℕ → List ℕ → Option (List ℕ) → Type 0
Steps text offset before offset' before' None =
    (readable (length text) before (drop offset text) ≡ [])
    × (readable (length text) before' (drop offset' text) ≡ [])
Steps text offset before offset' before' (Some value) =
    (is_internal before' ≡ true) × (readable (length text) before (drop offset text)
    ≡ entry_of (key_at before') value ∷ readable (length text) before' (drop offset' text))

-- Where a search from one offset on may go on: there, or elsewhere after the bytes of the key
-- itself, in place of the key before.
abbrev pub PassesTo : List ℕ → ℕ → InternalKey → ℕ → Type 0
PassesTo text start key offset = (offset ≡ start)
    ⊎ (not_below key (readable (length text) (key_bytes key) (drop offset text))
    ≡ not_below key (readable (length text) [] (drop start text)))
