-- Ranges of user keys that rise, in which a user key is found by a search.
use Rattle.std.specs.Prelude.{◌≡◌, ℕ, ◌<◌, ◌≤◌, Bool, true, ◌&&◌, List, length, slice_index_or}
use Rattle.lsm_codec.specs.Keys.{UserKey, user_le}

-- neither key of the second range is less than that of the first
abbrev pub rises : UserKey × UserKey → UserKey × UserKey → Bool
rises r s = user_le r.0 s.0 && user_le r.1 s.1

-- so it is of each range and each later one
pub record IsRising (ranges : List (UserKey × UserKey)) : Type 0 where
  pub later : (i j : ℕ) (d : UserKey × UserKey) → i ≤ j → j < length ranges
      → rises (slice_index_or ranges i d) (slice_index_or ranges j d) ≡ true
