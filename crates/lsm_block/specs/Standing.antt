-- Where a cursor stands when an entry was given: behind its value, with which an entry's text ends
-- (LevelDB's `table/block_builder.cc`).
use Rattle.std.specs.Prelude.{◌≡◌, ℕ, ◌-◌, ◌≤◌, Bool, true, false, List, [], ◌∷◌, length, take}
use Rattle.std.specs.Prelude.{drop, Option, Some, None, IsSome}
use Rattle.lsm_codec.specs.Keys.{UserKey, InternalKey}
use Rattle.lsm_codec.specs.Entries.{Entry, internal_key}
use Rattle.lsm_block.specs.Block.{entry_of}
use Rattle.lsm_block.specs.Held.{HeldBlock, Position, rest_of}

-- the bytes of a text before an offset, so many
abbrev pub bytes_before : List ℕ → ℕ → ℕ → List ℕ
bytes_before text offset len = take len (drop (offset - len) text)

-- the bytes stand in the text, before the offset
pub record EndsAt (text : List ℕ) (offset : ℕ) (bytes : List ℕ) : Type 0 where
  pub within : length bytes ≤ offset
  pub inside : offset ≤ length text
  pub there : bytes ≡ bytes_before text offset (length bytes)

-- A step that gives no value stays, and a value ends at the next offset.
abbrev pub StepStands : List ℕ → ℕ → List ℕ → ℕ → List ℕ → Option (List ℕ) → Type 0
StepStands text offset before offset' before' None = (offset' ≡ offset) × (before' ≡ before)
StepStands text offset before offset' before' (Some value) = EndsAt text offset' value

-- the same of places
abbrev pub Stands : List ℕ → Position → Position → Option (List ℕ) → Type 0
Stands text old new None = new ≡ old
Stands text old new (Some value) = EndsAt text new.offset value

-- ---- a cursor that stands at an entry

-- the entry of this key, if there is one, before the rest
abbrev pub with_key : Option InternalKey → List ℕ → List Entry → List Entry
with_key None value rest = []
with_key (Some key) value rest = entry_of key value ∷ rest

-- The entries from the one on at which a cursor stands, whose value has this length; none where it
-- stands at no entry.
abbrev pub from_here : HeldBlock → Position → Option ℕ → List Entry
from_here block place None = []
from_here block place (Some len) =
    with_key place.last (bytes_before block.text place.offset len) (rest_of block place)

-- Where a cursor stands at an entry, it has that entry's key, and its value is in the text.
abbrev pub IsStanding : HeldBlock → Position → Option ℕ → Type 0
IsStanding block place None = Unit {0}
IsStanding block place (Some len) =
    IsSome place.last × (len ≤ place.offset) × (place.offset ≤ length block.text)

abbrev pub but_first : List Entry → List Entry
but_first [] = []
but_first (e ∷ es) = es

abbrev pub is_end : List Entry → Bool
is_end [] = true
is_end (e ∷ es) = false

abbrev pub key_of_first : List Entry → Option InternalKey
key_of_first [] = None
key_of_first (e ∷ es) = Some (internal_key e)

-- its user key; no bytes where there is no entry
abbrev pub user_of_first : List Entry → UserKey
user_of_first [] = []
user_of_first (e ∷ es) = e.user

abbrev pub value_of_first : List Entry → List ℕ
value_of_first [] = []
value_of_first (e ∷ es) = e.value

-- What a step on answers: it moved to the entry behind the one at which it stood, or there was
-- none, and it stays.
abbrev pub IsMoved : Bool → List Entry → List Entry → Type 0
IsMoved true old new = (but_first old ≡ new) × (IsSome (key_of_first new))
IsMoved false old new = (but_first old ≡ []) × (new ≡ old)

-- the user key of the key before a place; no bytes where there is none
abbrev pub user_of_last : Option InternalKey → UserKey
user_of_last None = []
user_of_last (Some key) = key.user

-- Two user keys have the same bytes at their fronts, so many. They may have more in common.
pub record SharesFront (count : ℕ) (a b : UserKey) : Type 0 where
  pub same : take count a ≡ take count b
  pub first : count ≤ length a
  pub second : count ≤ length b

-- What a step on answers that also tells how many bytes of its user key are those of the one before
-- it: it moved, or it stays.
abbrev pub IsMovedBy : Option ℕ → List Entry → List Entry → Type 0
IsMovedBy None old new = IsMoved false old new
IsMovedBy (Some shared) old new =
    IsMoved true old new × SharesFront shared (user_of_first old) (user_of_first new)

-- A step to the next entry of a block, whose value has this length: the cursor then stands at it;
-- or it stays.
abbrev pub StepsTo : HeldBlock → Position → Position → Option ℕ → Type 0
StepsTo block old new None = (rest_of block old ≡ []) × (new ≡ old)
StepsTo block old new (Some len) =
    (from_here block new (Some len) ≡ rest_of block old) × IsStanding block new (Some len)
