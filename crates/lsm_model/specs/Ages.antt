-- The age of entries: of two entries of a user key at different depths the shallower is newer
-- (LevelDB's `doc/impl.md` reads level by level; that a database which breaks it is refused is this
-- project's rule).
use Rattle.std.specs.Prelude.{◌≡◌, ◌<◌, ◌≤◌, Bool, true, ◌&&◌, ◌||◌, not, cond, List, [], ◌∷◌}
use Rattle.std.specs.Prelude.{Option, Some, None, nat_lt, nat_le}
use Rattle.std.specs.Str.{bytes_eq}
use Rattle.lsm_codec.specs.Lists.{Has}
use Rattle.lsm_codec.specs.Keys.{UserKey, UserLe}
use Rattle.lsm_model.specs.Merging.{Placed}

-- Entries stand here with their depths.
-- of two entries of one user key the one that lies shallower has the greater sequence
abbrev pub IsAgeOrder : List Placed → Type 0
IsAgeOrder ps = (p q : Placed) → Has ps p → Has ps q → p.1.user ≡ q.1.user → p.0 < q.0
    → q.1.seq < p.1.seq

-- two entries of the user key are not in this order
abbrev pub IsAgainstAge : List Placed → UserKey → Type 0
IsAgainstAge ps k = (p : Placed) × (q : Placed) × Has ps p × Has ps q × (p.1.user ≡ k)
    × (q.1.user ≡ k) × (p.0 < q.0) × (p.1.seq ≤ q.1.seq)

-- the least user key of which this is so
pub record IsLeastAgainstAge (ps : List Placed) (k : UserKey) : Type 0 where
  pub here : IsAgainstAge ps k
  pub least : (other : UserKey) → IsAgainstAge ps other → UserLe k other

-- ---- how the code judges: each entry of a list in order against the next one

-- where both are of one user key, the later one lies no shallower, and where it lies deeper it is
-- older
abbrev pub is_aged : Placed → Placed → Bool
is_aged p q = not (bytes_eq p.1.user q.1.user)
    || (nat_le p.0 q.0 && (not (nat_lt p.0 q.0) || nat_lt q.1.seq p.1.seq))

abbrev pub may_follow : Option Placed → Placed → Bool
may_follow None q = true
may_follow (Some p) q = is_aged p q

-- the user key of the first entry that may not follow the one before it
abbrev pub against_age : Option Placed → List Placed → Option UserKey
against_age before [] = None
against_age before (q ∷ qs) = cond (may_follow before q) (against_age (Some q) qs) (Some q.1.user)
