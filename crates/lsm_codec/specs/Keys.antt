-- User keys, internal keys, and their orders (LevelDB's `db/dbformat.h`).
use Rattle.std.specs.Prelude.{◌≡◌, ℕ, zero, suc, ◌+◌, ◌-◌, ◌*◌, ◌/◌, ◌%◌, ◌^◌, ◌<◌, ◌≤◌, ◌&&◌, Bool}
use Rattle.std.specs.Prelude.{true, nat_lt, nat_le, if◌then◌else◌, List, ◌++◌, length, take, drop}
use Rattle.std.specs.Prelude.{Some, slice_get, slice_index}
use Rattle.std.specs.Ordering.{nat_cmp, is_le}
use Rattle.std.specs.declared.cmp.Ordering.{Ordering}
use Rattle.std.specs.declared.cmp.Ordering.TheVariants.{Less, Equal, Greater}
use Rattle.std.specs.Cmp.Lexicographic.{slice_cmp}
use Rattle.std.specs.Int.{w64, to_le_bytes, from_le_bytes}
use Rattle.lsm_codec.specs.declared.kind.Kind.{Kind}
use Rattle.lsm_codec.specs.declared.kind.Kind.TheVariants.{Deletion, Value}

abbrev pub UserKey : Type 0
UserKey = List ℕ

-- bytewise, a proper prefix first
unfoldable pub user_le : UserKey → UserKey → Bool
user_le a b = is_le (slice_cmp nat_cmp a b)

abbrev pub UserLe : UserKey → UserKey → Type 0
UserLe a b = user_le a b ≡ true

-- as a key stores it
abbrev pub kind_number : Kind → ℕ
kind_number Deletion = 0
kind_number Value = 1

-- a sequence and a kind in one number
abbrev pub packed_of : ℕ → Kind → ℕ
packed_of seq kind = seq * 256 + kind_number kind

pub record InternalKey : Type 0 where
  pub user : UserKey
  pub seq : ℕ
  pub kind : Kind

abbrev pub packed : InternalKey → ℕ
packed key = packed_of key.seq key.kind

-- the user key, and eight bytes of the sequence and the kind
abbrev pub key_bytes : InternalKey → List ℕ
key_bytes key = key.user ++ to_le_bytes w64 (packed key)

-- these bytes are that key
pub record IsKey (bytes : List ℕ) (key : InternalKey) : Type 0 where
  pub bytes_are : bytes ≡ key_bytes key
  pub fits : key.seq < 2 ^ 56

-- Eight bytes are there, and the first of them, where the kind stands, is above 1.
pub record IsBadKind (bytes : List ℕ) (kind : ℕ) : Type 0 where
  pub long : 8 ≤ length bytes
  pub stands : slice_get bytes (length bytes - 8) ≡ Some kind
  pub above : 1 < kind

-- the first, unless it is `Equal`
abbrev pub then_by : Ordering → Ordering → Ordering
then_by Less second = Less
then_by Equal second = second
then_by Greater second = Greater

-- user keys ascending, and of one user key the newest first
abbrev pub key_cmp : InternalKey → InternalKey → Ordering
key_cmp a b = then_by (slice_cmp nat_cmp a.user b.user) (nat_cmp (packed b) (packed a))

-- ---- bytes as a key

-- eight bytes at least, and the kind is 0 or 1
unfoldable pub is_internal : List ℕ → Bool
is_internal bytes = nat_le 8 (length bytes) && nat_le (slice_index bytes (length bytes - 8)) 1

abbrev pub user_of : List ℕ → List ℕ
user_of bytes = take (length bytes - 8) bytes

-- the last eight bytes: sequence * 256 + kind
abbrev pub tail_of : List ℕ → ℕ
tail_of bytes = from_le_bytes w64 (drop (length bytes - 8) bytes)

abbrev pub kind_at : ℕ → Kind
kind_at zero = Deletion
kind_at (suc n) = Value

-- the internal key that the bytes are
unfoldable pub key_at : List ℕ → InternalKey
key_at bytes = record {
  user = user_of bytes;
  seq = tail_of bytes / 256;
  kind = kind_at
      (tail_of bytes % 256);
}

-- What stands before the last eight bytes, and the number that these spell. Fewer than eight bytes
-- are all a user key.
unfoldable pub user_part : List ℕ → List ℕ
user_part bytes = if nat_lt (length bytes) 8 then bytes else user_of bytes

unfoldable pub packed_part : List ℕ → ℕ
packed_part bytes = if nat_lt (length bytes) 8 then 0 else tail_of bytes
