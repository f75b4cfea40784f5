-- The user keys from one to another, both included, in bytewise order, that begin with some bytes;
-- `None` is no bound, or any beginning.
use Rattle.std.specs.Prelude.{Bool, true, false, not, ◌&&◌, ◌||◌, ◌==◌, Option, Some, None}
use Rattle.std.specs.List.{starts_with}
use Rattle.lsm_codec.specs.Keys.{UserKey, user_le}
use Rattle.lsm_requests.specs.declared.key_bounds.KeyBounds.{KeyBounds}

abbrev pub is_from : Option UserKey → UserKey → Bool
is_from None key = true
is_from (Some from) key = user_le from key

abbrev pub is_to : Option UserKey → UserKey → Bool
is_to None key = true
is_to (Some to) key = user_le key to

abbrev pub begins_so : Option UserKey → UserKey → Bool
begins_so None key = true
begins_so (Some prefix) key = starts_with ◌==◌ key prefix

abbrev pub is_within : KeyBounds → UserKey → Bool
is_within bounds key = is_from bounds.from key && is_to bounds.to key && begins_so bounds.prefix key

-- ---- where no greater key is within

-- it is the last one, or above it
abbrev pub has_reached : Option UserKey → UserKey → Bool
has_reached None key = false
has_reached (Some to) key = user_le to key

-- it is above those that begin so
abbrev pub has_passed : Option UserKey → UserKey → Bool
has_passed None key = false
has_passed (Some prefix) key = not (starts_with ◌==◌ key prefix) && user_le prefix key

abbrev pub ends_at : KeyBounds → UserKey → Bool
ends_at bounds key = has_reached bounds.to key || has_passed bounds.prefix key
