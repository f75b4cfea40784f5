-- What a merge keeps of its inputs (LevelDB's `doc/impl.md`, "Compactions": overwritten values are
-- dropped, and deletions where no deeper level may have the key).
use Rattle.std.specs.Prelude.{◌≡◌, ℕ, ◌<◌, ◌≤◌, Bool, true, false, ◌&&◌, not, List, nat_lt, nat_le}
use Rattle.std.specs.List.{list_any, filter}
use Rattle.std.specs.Str.{bytes_eq}
use Rattle.lsm_codec.specs.declared.kind.Kind.{Kind}
use Rattle.lsm_codec.specs.declared.kind.Kind.TheVariants.{Deletion, Value}
use Rattle.lsm_codec.specs.Lists.{Has}
use Rattle.lsm_codec.specs.Keys.{UserKey, user_le}
use Rattle.lsm_codec.specs.Entries.{Entry, stamp}

abbrev pub is_deletion : Kind → Bool
is_deletion Deletion = true
is_deletion Value = false

-- one of the ranges has the key
abbrev pub covers : List (UserKey × UserKey) → UserKey → Bool
covers ranges k = list_any (λ r. user_le r.0 k && user_le k r.1) ranges

-- an entry of the list with the user key of e stands before it, with a sequence at most the floor
abbrev pub IsHidden : List Entry → ℕ → Entry → Type 0
IsHidden es floor e = (x : Entry) × Has es x × (x.user ≡ e.user) × (stamp e < stamp x)
    × (x.seq ≤ floor)

-- e is a deletion with a sequence at most the floor, and its user key lies in no range
pub record IsVoid (floor : ℕ) (ranges : List (UserKey × UserKey)) (e : Entry) : Type 0 where
  pub deletion : e.kind ≡ Deletion
  pub old : e.seq ≤ floor
  pub uncovered : covers ranges e.user ≡ false

-- the test of IsHidden
abbrev pub is_hidden : List Entry → ℕ → Entry → Bool
is_hidden es floor e = list_any (λ y.
    bytes_eq y.user e.user && (nat_lt (stamp e) (stamp y) && nat_le y.seq floor)) es

-- the test of IsVoid
abbrev pub is_void : ℕ → List (UserKey × UserKey) → Entry → Bool
is_void floor ranges e = is_deletion e.kind && (nat_le e.seq floor && not (covers ranges e.user))

-- the entries that are neither hidden nor void
abbrev pub kept_entries : List Entry → ℕ → List (UserKey × UserKey) → List Entry
kept_entries es floor ranges =
    filter (λ e. not (is_hidden es floor e) && not (is_void floor ranges e)) es
