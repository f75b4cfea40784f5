-- Entries, their order, and what a set of entries answers to a read (LevelDB's `doc/impl.md` and
-- `db/dbformat.h`).
use Rattle.std.specs.Prelude.{ℕ, Bool, cond, List, [], ◌∷◌, Option, Some, None, nat_lt, nat_le}
use Rattle.std.specs.Prelude.{◌&&◌}
use Rattle.std.specs.Str.{bytes_eq}
use Rattle.std.specs.declared.cmp.Ordering.{Ordering}
use Rattle.lsm_codec.specs.declared.kind.Kind.{Kind}
use Rattle.lsm_codec.specs.declared.kind.Kind.TheVariants.{Deletion, Value}
use Rattle.lsm_codec.specs.Keys.{UserKey, InternalKey, packed_of, key_cmp}

-- the one record of an entry, of an index block's entries too
pub record Entry : Type 0 where
  pub user : UserKey
  pub seq : ℕ
  pub kind : Kind
  pub value : List ℕ

abbrev pub internal_key : Entry → InternalKey
internal_key e = record { user = e.user; seq = e.seq; kind = e.kind }

-- of two entries of one user key the one with the greater stamp comes first
abbrev pub stamp : Entry → ℕ
stamp e = packed_of e.seq e.kind

-- the order in tables: by internal key
abbrev pub entry_cmp : Entry → Entry → Ordering
entry_cmp e f = key_cmp (internal_key e) (internal_key f)

-- ---- reads

abbrev pub is_allowed : UserKey → ℕ → Entry → Bool
is_allowed k s e = bytes_eq e.user k && nat_le e.seq s

abbrev pub first_of_two : Entry → Option Entry → Entry
first_of_two e None = e
first_of_two e (Some f) = cond (nat_lt (stamp e) (stamp f)) f e

-- the first entry of the user key k with a sequence at most s
abbrev pub newest : UserKey → ℕ → List Entry → Option Entry
newest k s [] = None
newest k s (e ∷ es) = cond (is_allowed k s e) (Some (first_of_two e (newest k s es)))
    (newest k s es)

-- a value, or nothing for a deletion
abbrev pub shown : Kind → List ℕ → Option (List ℕ)
shown Deletion value = None
shown Value value = Some value

abbrev pub value_in : Option Entry → Option (List ℕ)
value_in None = None
value_in (Some e) = shown e.kind e.value

-- what a read of the user key k at the sequence s gives
abbrev pub answer : List Entry → UserKey → ℕ → Option (List ℕ)
answer es k s = value_in (newest k s es)
