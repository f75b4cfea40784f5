-- The order of files in a level (LevelDB's `doc/impl.md`): by smallest internal key, then by
-- number.
use Rattle.std.specs.Prelude.{ℕ, List}
use Rattle.std.specs.Ordering.{nat_cmp, ordering_then}
use Rattle.std.specs.Cmp.Lexicographic.{slice_cmp}
use Rattle.std.specs.declared.cmp.Ordering.{Ordering}
pub use Rattle.lsm_codec.specs.Keys.{user_part, packed_part}
use Rattle.lsm_manifest.specs.declared.file_meta.FileMeta.{FileMeta}

-- by smallest internal key, of one user key the newest first, and then by number
abbrev pub place_cmp : List ℕ → ℕ → List ℕ → ℕ → Ordering
place_cmp smallest number other_smallest other_number =
    ordering_then (slice_cmp nat_cmp (user_part smallest) (user_part other_smallest))
    (ordering_then (nat_cmp (packed_part other_smallest) (packed_part smallest))
    (nat_cmp number other_number))

abbrev pub file_cmp : FileMeta → FileMeta → Ordering
file_cmp f g = place_cmp f.smallest f.number g.smallest g.number

-- a table file, under a name that no type of src/ has
abbrev pub TableFile : Type 0
TableFile = FileMeta
