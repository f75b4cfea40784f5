-- The files of a version, as a listing has them.
use Rattle.std.specs.Prelude.{ℕ, suc, List, [], ◌∷◌, ◌++◌, map}
use Rattle.lsm_table.specs.Registry.{Table}
use Rattle.lsm_manifest.specs.FileOrder.{TableFile}
use Rattle.lsm_journal.specs.Recorded.{meta_of}

-- the files of a level, in its order
abbrev pub listed_at : ℕ → List Table → List (ℕ × TableFile)
listed_at level ts = map (λ t. (level, meta_of t)) ts

-- those of the levels from this one on
abbrev pub listed_from : ℕ → List (List Table) → List (ℕ × TableFile)
listed_from level [] = []
listed_from level (ts ∷ levels) = listed_at level ts ++ listed_from (suc level) levels
