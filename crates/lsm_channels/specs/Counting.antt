-- How much a database has (this project's rule).
use Rattle.std.specs.Prelude.{◌≡◌, ℕ, ◌-◌, ◌^◌, ◌==◌, List, [], ◌∷◌, length, map, min, sum_by}
use Rattle.std.specs.List.{filter}
use Rattle.lsm_frames.specs.declared.level_size.LevelSize.{LevelSize}
use Rattle.lsm_manifest.specs.FileOrder.{TableFile}
use Rattle.lsm_state.specs.Held.{Held}
use Rattle.lsm_state.specs.Listing.{listed_from}
use Rattle.lsm_codec.specs.Entries.{Entry}
use Rattle.lsm_channels.specs.Served.{IsLent}

-- the files of a level
abbrev pub files_at : ℕ → List (ℕ × TableFile) → List (ℕ × TableFile)
files_at level fs = filter (λ f. f.0 == level) fs

-- at most 2^64 - 1
abbrev pub capped : ℕ → ℕ
capped n = min n (2 ^ 64 - 1)

-- how many there are, and how many bytes they have
abbrev pub size_at : List (ℕ × TableFile) → ℕ → LevelSize
size_at fs level = record {
  files = length (files_at level fs);
  bytes = capped (sum_by (λ f.
      f.1.size) (files_at level fs));
}

-- of each level
abbrev pub sizes_of : List (ℕ × TableFile) → List LevelSize
sizes_of fs = map (size_at fs) (0 ∷ 1 ∷ 2 ∷ 3 ∷ 4 ∷ 5 ∷ 6 ∷ [])

-- These are the last sequence of a state that the lock gave, and the files of its version. It has
-- all that was known.
pub record IsListed (keeps : Held
    → Type 0) (last : ℕ) (fs : List (ℕ × TableFile)) (knew knows : List Entry) : Type 0 where
  pub state : Held
  pub lent : IsLent keeps state knew knows
  pub last_is : last ≡ state.slots.version.last
  pub files_are : fs ≡ listed_from 0 state.slots.version.tables
