-- Which tables of a level a range of user keys meets (LevelDB's `doc/impl.md`, "Compactions":
-- overlapping files).
use Rattle.std.specs.Prelude.{Bool, ◌&&◌}
use Rattle.lsm_codec.specs.Keys.{UserKey, user_le}
use Rattle.lsm_table.specs.Registry.{Table}
use Rattle.lsm_version.specs.Reads.{begins_by, reaches}

-- the table's range of user keys begins at `to` or before, and ends at `from` or behind it
abbrev pub lies_over : UserKey → UserKey → Table → Bool
lies_over from to t = begins_by t to && reaches t from

-- The table's range and the range from `from` to `to` have a user key in common. A range that ends
-- before it begins has none.
abbrev pub meets : UserKey → UserKey → Table → Bool
meets from to t = user_le from to && lies_over from to t
