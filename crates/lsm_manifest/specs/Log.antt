-- What a record log is (LevelDB's `doc/log_format.md`): blocks of 32,768 bytes, fragments that lie
-- within a block, records of fragments, and a rest that holds no whole record. That zeros in a
-- header's place are skipped outside a record is this project's rule.
use Rattle.std.specs.Prelude.{◌≡◌, ℕ, zero, suc, ◌+◌, ◌-◌, ◌%◌, ◌<◌, ◌≤◌, ◌⊎◌, Bool, true, false}
use Rattle.std.specs.Prelude.{◌&&◌, ◌||◌, ◌==◌, List, [], ◌∷◌, ◌++◌, length, get_or}
use Rattle.std.specs.Int.{w16, w32, to_le_bytes, from_le_bytes}
use Rattle.lsm_codec.specs.Crc.{crc_of}
use Rattle.lsm_codec.specs.Mask.{masked}

-- how many bytes are left in the block of this place
abbrev pub left : ℕ → ℕ
left offset = 32768 - offset % 32768

-- the stored checksum of a fragment
unfoldable pub sum_bytes : ℕ → List ℕ → List ℕ
sum_bytes kind body = to_le_bytes w32 (masked (crc_of (kind ∷ body)))

-- a fragment: checksum, length, kind, data
unfoldable pub fragment : ℕ → List ℕ → List ℕ
fragment kind body = sum_bytes kind body ++ (to_le_bytes w16 (length body) ++ (kind ∷ body))

-- the length and the kind that a header names
abbrev pub size_of : List ℕ → ℕ
size_of text = from_le_bytes w16 (get_or text 4 0 ∷ get_or text 5 0 ∷ [])

abbrev pub kind_of : List ℕ → ℕ
kind_of text = get_or text 6 0

-- Kinds: 1 a whole record, 2 its first part, 3 one in the middle, 4 its last. A record may begin
-- where none is begun, or where the begun one has no data yet; it goes on only where one is begun.
unfoldable pub may_follow : Bool → List ℕ → ℕ → Bool
may_follow begun before kind =
    ((kind == 1 || kind == 2) && length before == 0) || ((kind == 3 || kind == 4) && begun)

unfoldable pub ends : ℕ → Bool
ends kind = kind == 1 || kind == 4

-- A fragment at this offset, where a record is begun (begun) and has this data so far.
pub record IsPiece (offset : ℕ) (begun : Bool) (before : List ℕ) (kind : ℕ) (body own : List ℕ)
    : Type 0 where
  pub own_is : own ≡ fragment kind body
  pub fits : 7 + length body ≤ left offset
  pub follows : may_follow begun before kind ≡ true

-- Zeros where a fragment's kind and length would stand, outside a record: the rest of the block is
-- skipped.
pub record IsFiller (begun : Bool) (own : List ℕ) : Type 0 where
  pub outside : begun ≡ false
  pub long : 7 ≤ length own
  pub no_size : size_of own ≡ 0
  pub no_kind : kind_of own ≡ 0

-- The rest of a block that is skipped.
pub record Skips (offset : ℕ) (begun : Bool) (before own : List ℕ) (begun_after : Bool)
    (after : List ℕ) : Type 0 where
  pub whole : length own ≡ left offset
  pub why : (left offset < 7) ⊎ IsFiller begun own
  pub begun_is : begun_after ≡ begun
  pub body_is : after ≡ before

-- A fragment that does not end its record.
pub record Adds (offset : ℕ) (begun : Bool) (before own : List ℕ) (begun_after : Bool)
    (after : List ℕ) : Type 0 where
  pub kind : ℕ
  pub body : List ℕ
  pub piece : IsPiece offset begun before kind body own
  pub goes_on : ends kind ≡ false
  pub begun_is : begun_after ≡ true
  pub body_is : after ≡ before ++ body

-- A part of a text that ends no record, the state after it, and what follows.
pub record Part (offset : ℕ) (begun : Bool) (before text : List ℕ) : Type 0 where
  pub own : List ℕ
  pub later : List ℕ
  pub begun_after : Bool
  pub after : List ℕ
  pub text_is : text ≡ own ++ later
  pub passes : Skips offset begun before own begun_after after
      ⊎ Adds offset begun before own begun_after after

-- So many parts that end no record, and then what P says.
abbrev pub Row : ℕ → (ℕ → Bool → List ℕ → List ℕ → Type 0) → ℕ → Bool → List ℕ → List ℕ → Type 0
Row zero P offset begun before text = P offset begun before text
Row (suc count) P offset begun before text =
    (p : Part offset begun before text)
    × Row count P (offset + length p.own) p.begun_after p.after p.later

-- The text is the last fragment of the record.
pub record IsLast (whole : List ℕ) (offset : ℕ) (begun : Bool) (before text : List ℕ) : Type 0 where
  pub kind : ℕ
  pub body : List ℕ
  pub piece : IsPiece offset begun before kind body text
  pub ends_it : ends kind ≡ true
  pub whole_is : before ++ body ≡ whole

-- The text at this offset spells just this record, skipped parts before its fragments included.
pub record IsRecord (offset : ℕ) (text whole : List ℕ) : Type 0 where
  pub count : ℕ
  pub row : Row count (IsLast whole) offset false [] text

-- The text at this offset spells these records, one after the other.
abbrev pub AreRecords : ℕ → List ℕ → List (List ℕ) → Type 0
AreRecords offset text [] = text ≡ []
AreRecords offset text (r ∷ rs) =
    (own later : List ℕ) × (text ≡ own ++ later) × IsRecord offset own r
    × AreRecords (offset + length own) later rs

-- The file ends here: fewer bytes than a header has, or in this block and within a fragment or
-- skipped zeros.
abbrev pub IsEnd : ℕ → Bool → List ℕ → List ℕ → Type 0
IsEnd offset begun before text =
    (length text < 7) ⊎ ((length text ≤ left offset)
    × ((length text < 7 + size_of text) ⊎ IsFiller begun text))

-- What follows the records: parts that end no record, and the end.
pub record HoldsNone (offset : ℕ) (text : List ℕ) : Type 0 where
  pub count : ℕ
  pub row : Row count IsEnd offset false [] text

-- The text at this offset is the records, and then so many bytes that hold no whole record.
pub record LogFrom (offset : ℕ) (text : List ℕ) (records : List (List ℕ)) (rest : ℕ) : Type 0 where
  pub front : List ℕ
  pub tail : List ℕ
  pub text_is : text ≡ front ++ tail
  pub spelled : AreRecords offset front records
  pub none : HoldsNone (offset + length front) tail
  pub rest_is : length tail ≡ rest

-- The bytes are a log of the records, and so many bytes at the end that hold no whole record.
abbrev pub IsLog : List ℕ → List (List ℕ) → ℕ → Type 0
IsLog bytes records rest = LogFrom 0 bytes records rest
