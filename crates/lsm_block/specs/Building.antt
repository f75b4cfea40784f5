-- The bytes of a block that the writer makes of entries: what each shares with the key before it,
-- and where the restarts are (LevelDB's `table/block_builder.cc`).
use Rattle.std.specs.Prelude.{◌≡◌, ℕ, suc, ◌+◌, ◌%◌, ◌^◌, ◌<◌, ◌&&◌, Bool, true, false, nat_lt}
use Rattle.std.specs.Prelude.{◌==◌, List, [], ◌∷◌, ◌++◌, length, drop, Option, Some, None}
use Rattle.std.specs.List.{flat_map, AllByRecursion}
use Rattle.std.specs.Ordering.{is_lt}
use Rattle.std.specs.Int.{w32, to_le_bytes}
use Rattle.lsm_codec.specs.Varint.{varint32}
use Rattle.lsm_codec.specs.Keys.{InternalKey, key_cmp}
use Rattle.lsm_codec.specs.Entries.{Entry, internal_key}
use Rattle.lsm_block.specs.Block.{Ascends, key_text}
use Rattle.lsm_block.specs.Seeking.{readable}

abbrev pub one_more : Bool → ℕ → ℕ
one_more true n = suc n
one_more false n = 0

-- how many bytes two lists have in common at their front
unfoldable pub common : List ℕ → List ℕ → ℕ
common [] ys = 0
common (x ∷ xs) [] = 0
common (x ∷ xs) (y ∷ ys) = one_more (x == y) (common xs ys)

-- a restart stands at every interval-th entry
abbrev pub is_restart : ℕ → ℕ → Bool
is_restart interval index = index % interval == 0

abbrev pub shared_if : Bool → ℕ → ℕ
shared_if true n = 0
shared_if false n = n

-- What the entry of this index shares with the key before it: nothing at a restart, and else the
-- longest common prefix.
abbrev pub shared_at : ℕ → ℕ → List ℕ → List ℕ → ℕ
shared_at interval index before key = shared_if (is_restart interval index) (common before key)

-- three numbers, the rest of the key and the value
abbrev pub parts_text : ℕ → List ℕ → List ℕ → List ℕ
parts_text shared unshared value =
    varint32 shared ++ (varint32 (length unshared)
    ++ (varint32 (length value) ++ (unshared ++ value)))

-- how long that is
abbrev pub own_len : ℕ → ℕ → ℕ → ℕ
own_len shared unshared_len value_len =
    length (varint32 shared) + length (varint32 unshared_len) + length (varint32 value_len)
    + unshared_len + value_len

-- an entry that shares so many bytes of its key
abbrev pub sharing_text : ℕ → Entry → List ℕ
sharing_text shared e = parts_text shared (drop shared (key_text e)) e.value

-- the text of entries, the first of which has this index and follows the key before
unfoldable pub entries_text : ℕ → ℕ → List ℕ → List Entry → List ℕ
entries_text interval index before [] = []
entries_text interval index before (e ∷ es) =
    sharing_text (shared_at interval index before (key_text e)) e
    ++ entries_text interval (suc index) (key_text e) es

abbrev pub offset_if : Bool → ℕ → List ℕ
offset_if true offset = offset ∷ []
offset_if false offset = []

-- how long a block is with an entry more, by the lengths of its parts
abbrev pub grown_len : ℕ → ℕ → Bool → ℕ → ℕ → ℕ → ℕ
grown_len text_len offsets_len restarts shared unshared_len value_len =
    text_len + own_len shared unshared_len value_len
    + (offsets_len + length (flat_map (to_le_bytes w32) (offset_if restarts text_len))) + 8

abbrev pub is_later_restart : ℕ → ℕ → Bool
is_later_restart interval index = nat_lt 0 index && is_restart interval index

-- the offsets of the restarts, but for that of the very first entry
unfoldable pub later_restarts : ℕ → ℕ → ℕ → List ℕ → List Entry → List ℕ
later_restarts interval index offset before [] = []
later_restarts interval index offset before (e ∷ es) =
    offset_if (is_later_restart interval index) offset
    ++ later_restarts interval (suc index) (offset
    + length (sharing_text (shared_at interval index before (key_text e)) e)) (key_text e) es

-- the restarts and their number, the first of them 0
abbrev pub with_restarts : List ℕ → List ℕ → List ℕ
with_restarts text later = text
    ++ (flat_map (to_le_bytes w32) (0 ∷ later) ++ to_le_bytes w32 (length later + 1))

-- the block that the writer makes of the entries
unfoldable pub block_bytes : ℕ → List Entry → List ℕ
block_bytes interval es = with_restarts (entries_text interval 0 [] es)
    (later_restarts interval 0 0 [] es)

-- what has a spelling in a block
pub record FitsEntry (e : Entry) : Type 0 where
  pub key : length (key_text e) < 2 ^ 32
  pub value : length e.value < 2 ^ 32
  pub seq : e.seq < 2 ^ 56

-- ---- a builder

-- a block that is being built
pub record Building : Type 0 where
  pub interval : ℕ
  pub entries : List Entry

-- the bytes of the last key
abbrev pub last_text : List ℕ → List Entry → List ℕ
last_text before [] = before
last_text before (e ∷ es) = last_text (key_text e) es

-- the last key, if there is one
abbrev pub last_key : List Entry → Option InternalKey
last_key [] = None
last_key (e ∷ []) = Some (internal_key e)
last_key (e ∷ f ∷ es) = last_key (f ∷ es)

abbrev pub after_last : Option InternalKey → InternalKey → Bool
after_last None key = true
after_last (Some last) key = is_lt (key_cmp last key)

-- the entries that a text spells
unfoldable pub entries_in : List ℕ → List Entry
entries_in text = readable (length text) [] text

-- What a builder keeps of its entries: their text, the bytes of the restarts after the first, and
-- the last key.
pub record Built (interval : ℕ) (entries : List Entry) (text offsets last : List ℕ) (count : ℕ)
    : Type 0 where
  pub some : 0 < interval
  pub fit : AllByRecursion FitsEntry entries
  pub ascend : Ascends entries
  pub text_is : text ≡ entries_text interval 0 [] entries
  pub offsets_are : offsets ≡ flat_map (to_le_bytes w32) (later_restarts interval 0 0 [] entries)
  pub last_is : last ≡ last_text [] entries
  pub count_is : count ≡ length entries
  pub small : length text + length offsets + 8 < 2 ^ 32
