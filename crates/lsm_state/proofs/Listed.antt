-- The files of levels, appended level by level.
use Rattle.std.proofs.Common.{◌≡◌, ℕ, zero, suc, ◌+◌, ◌<◌, List, [], ◌∷◌, ◌++◌, length, get_or, drop, refl, sym, ◌∙◌, ap, append_assoc, arith}
use Rattle.std.proofs.lemmas.List.{drop_more}
use Rattle.lsm_table.specs.Registry.{Table}
use Rattle.lsm_manifest.specs.FileOrder.{TableFile}
use Rattle.lsm_version.specs.Versions.{level_in}
use Rattle.lsm_state.specs.Listing.{listed_at, listed_from}

level_at : (levels : List (List Table)) (n : ℕ) → level_in levels n ≡ get_or levels n []
level_at [] n = refl
level_at (ts ∷ levels) zero = refl
level_at (ts ∷ levels) (suc n) = level_at levels n

pub listed_more : (levels : List (List Table)) (n : ℕ) (files all : List (ℕ × TableFile)) → n < length levels → files ++ listed_from n (drop n levels) ≡ all
    → (files ++ listed_at n (level_in levels n)) ++ listed_from (n + 1) (drop (n + 1) levels) ≡ all
listed_more levels n files all lt e =
    append_assoc files (listed_at n (level_in levels n)) (listed_from (n + 1) (drop (n + 1) levels))
    ∙ (ap (λ l. files ++ l) (ap (λ ts. listed_at n ts ++ listed_from (n + 1) (drop (n + 1) levels)) (level_at levels n)
    ∙ (ap (λ m. listed_at n (get_or levels n []) ++ listed_from m (drop (n + 1) levels)) (more n) ∙ ap (listed_from n) (sym (drop_more levels n [] lt))))
    ∙ e)
  where
    more : (n : ℕ) → n + 1 ≡ suc n
    more n = omega arith
