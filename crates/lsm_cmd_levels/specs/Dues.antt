-- Which compaction is due next, by a shape alone: this project's order of candidates, where no job
-- is live. `lsm_picker` decides it over tables that were judged.
use Rattle.std.specs.Prelude.{◌≡◌, ◌⊎◌, ℕ, suc, ◌<◌, ◌≤◌, Bool, true, false, ◌&&◌, ◌||◌, ◌==◌, List}
use Rattle.std.specs.Prelude.{◌∷◌, ◌++◌, Option, Some, None, get_or}
use Rattle.std.specs.Ordering.{is_gt, nat_cmp, ordering_then}
use Rattle.std.specs.Cmp.Lexicographic.{slice_cmp}
use Rattle.std.specs.declared.cmp.Ordering.{Ordering}
use Rattle.lsm_codec.specs.Keys.{packed_part, user_part}
use Rattle.lsm_codec.specs.Lists.{Has}
use Rattle.lsm_manifest.specs.declared.file_meta.FileMeta.{FileMeta}
use Rattle.lsm_manifest.specs.declared.shape.Shape.{Shape}
use Rattle.lsm_cmd_levels.specs.Reaching.{IsReach, meets, span_in, span_of}
use Rattle.lsm_cmd_levels.specs.Sums.{files_at, weight, whole}
use Rattle.lsm_cmd_levels.specs.declared.due.Due.{Due}

-- ---- the level

-- the level's score is at least 1
abbrev pub IsDue : Shape → ℕ → Type 0
IsDue s level = (level ≤ 5) × (whole ≤ weight level (files_at s level))

-- the level has the greater score, or the same one and is not below
abbrev pub IsBefore : Shape → ℕ → ℕ → Type 0
IsBefore s level other =
    (weight other (files_at s other) < weight level (files_at s level))
    ⊎ ((weight other (files_at s other) ≡ weight level (files_at s level)) × (level ≤ other))

-- the first of the levels that are due; there is none
abbrev pub IsFirstDue : Shape → Option ℕ → Type 0
IsFirstDue s None = (other : ℕ) → IsDue s other → ⊥
IsFirstDue s (Some level) = IsDue s level × ((other : ℕ) → IsDue s other → IsBefore s level other)

-- ---- the file from which it starts

-- internal keys: user keys ascending, of one user key the newest first
abbrev pub bytes_cmp : List ℕ → List ℕ → Ordering
bytes_cmp a b = ordering_then (slice_cmp nat_cmp (user_part a) (user_part b))
    (nat_cmp (packed_part b) (packed_part a))

-- the file's largest key is beyond the compaction pointer of its level, or there is none
abbrev pub is_beyond : Option (List ℕ) → FileMeta → Bool
is_beyond None f = true
is_beyond (Some key) f = is_gt (bytes_cmp f.largest key)

-- no file is beyond it
abbrev pub NoneBeyond : Option (List ℕ) → List FileMeta → Type 0
NoneBeyond pointer fs = (f : FileMeta) → Has fs f → is_beyond pointer f ≡ false

-- the first file of the level that is beyond its pointer; where there is no such one, the first
-- file
abbrev pub IsStart : Option (List ℕ) → List FileMeta → FileMeta → Type 0
IsStart pointer fs f =
    ((front : List FileMeta) × (back : List FileMeta) × (fs ≡ front ++ f ∷ back)
    × NoneBeyond pointer front × (is_beyond pointer f ≡ true))
    ⊎ (NoneBeyond pointer fs × ((back : List FileMeta) × (fs ≡ f ∷ back)))

-- ---- what it takes

-- The files of its level that the first one reaches, and those of the next level that their range
-- reaches.
abbrev pub IsDueNext : Shape → Option Due → Type 0
IsDueNext s None = IsFirstDue s None
IsDueNext s (Some d) =
    IsFirstDue s (Some d.level)
    × ((f : FileMeta) × IsStart (get_or s.pointers d.level None) (files_at s d.level) f
    × IsReach (files_at s d.level) (span_of f) (span_in d.upper))
    × IsReach (files_at s (suc d.level)) (span_in d.upper) (span_in d.lower)

-- a file of this level is taken
abbrev pub is_taken : Option Due → ℕ → FileMeta → Bool
is_taken None level f = false
is_taken (Some d) level f =
    (level == d.level && meets (span_in d.upper) (span_of f))
    || (level == suc d.level && meets (span_in d.lower) (span_of f))
