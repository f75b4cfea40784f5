-- Where keys are on a picture: this project's rule. Along the axis stand the ends of all files of
-- all levels, by their user keys; each end takes as much room as its file has bytes. So in a level
-- whose files do not meet they are side by side, a file is never narrower than by its own bytes,
-- and two files have an end in common room just where their ranges meet.
use Rattle.std.specs.Prelude.{ℕ, ◌+◌, ◌*◌, ◌/◌, max, cond, not}
use Rattle.std.specs.List.{sum_by}
use Rattle.lsm_codec.specs.Keys.{UserKey, user_le, user_part}
use Rattle.lsm_manifest.specs.declared.file_meta.FileMeta.{FileMeta}
use Rattle.lsm_manifest.specs.declared.shape.Shape.{Shape}
use Rattle.lsm_cmd_levels.specs.Sums.{bytes_of}

-- the room of the ends of a file that are before a key
abbrev pub before : UserKey → FileMeta → ℕ
before key f = cond (not (user_le key (user_part f.smallest))) f.size 0
    + cond (not (user_le key (user_part f.largest))) f.size 0

-- that of the ends which are not behind it
abbrev pub up_to : UserKey → FileMeta → ℕ
up_to key f = cond (user_le (user_part f.smallest) key) f.size 0
    + cond (user_le (user_part f.largest) key) f.size 0

-- where what begins at a key begins, and where what ends at one ends
unfoldable pub begin_of : Shape → UserKey → ℕ
begin_of s key = sum_by (λ fs. sum_by (before key) fs) s.levels

unfoldable pub end_of : Shape → UserKey → ℕ
end_of s key = sum_by (λ fs. sum_by (up_to key) fs) s.levels

-- the room of all ends, at least 1
unfoldable pub room : Shape → ℕ
room s = max 1 (2 * sum_by bytes_of s.levels)

-- a place along it, in parts of which the picture is 100,000 wide
abbrev pub across : Shape → ℕ → ℕ
across s place = place * 100000 / room s
