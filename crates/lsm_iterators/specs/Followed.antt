-- The entry that another one follows in a merge: what of it the age order asks for.
use Rattle.std.specs.Prelude.{ℕ, Bool, true, ◌&&◌, ◌||◌, not, nat_le, nat_lt, [], Option, Some}
use Rattle.std.specs.Prelude.{None}
use Rattle.lsm_codec.specs.declared.kind.Kind.TheVariants.{Deletion}
use Rattle.lsm_codec.specs.Keys.{UserKey}
use Rattle.lsm_model.specs.Merging.{Placed}
use Rattle.lsm_model.specs.Ages.{may_follow}

-- an entry of which depth, user key and sequence are known; kind and value do not matter
abbrev pub known : ℕ → UserKey → ℕ → Placed
known depth user seq = (depth, record { user = user; seq = seq; kind = Deletion; value = [] })

-- the same, where there is such a user key
abbrev pub known_if : ℕ → Option UserKey → ℕ → Option Placed
known_if depth None seq = None
known_if depth (Some user) seq = Some (known depth user seq)

-- the entry may follow, if there is one
abbrev pub follows : Option Placed → Option Placed → Bool
follows before None = true
follows before (Some p) = may_follow before p

-- An entry of the second depth and sequence may follow one of the first, where both have one user
-- key or not: of one user key it lies no shallower, and where it lies deeper it is older.
abbrev pub stands_after : Bool → ℕ → ℕ → ℕ → ℕ → Bool
stands_after is_same depth seq next_depth next_seq =
    not is_same || (nat_le depth next_depth
    && (not (nat_lt depth next_depth) || nat_lt next_seq seq))
