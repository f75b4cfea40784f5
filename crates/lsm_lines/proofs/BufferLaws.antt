-- Limits of what is put.
use Rattle.std.proofs.Common.{◌≡◌, ℕ, ◌+◌, ◌<◌, ◌≤◌, List, [], ◌∷◌, ◌++◌, length, ap, subst, inl, inr, arith}
use Rattle.std.specs.Prelude.{◌⊎◌, sum_by}
use Rattle.lsm_codec.specs.Lists.{Has}
use Rattle.lsm_codec.proofs.CallerLemmas.{has_cases}
use Rattle.lsm_batch.specs.Batches.{IsLarge, IsTooLarge, size_of}
use Rattle.lsm_batch.specs.Limits.{most_bytes, most_entries}
use Rattle.lsm_batch.proofs.CallerLemmas.{bytes_more, fits_from, length_more, small_fit}
use Rattle.lsm_batch.specs.declared.write.Write.{Write}

-- one write more
abbrev pub with_last : List Write → Write → List Write
with_last ws w = ws ++ w ∷ []

one_small : (ws : List Write) (w v : Write) → ((w : Write) → Has ws w → IsLarge w → ⊥) → (IsLarge w → ⊥) → Has (ws ++ w ∷ []) v → IsLarge v → ⊥
one_small ws w v small one has = elim (has_cases ws (w ∷ []) v has) [
  | inl h ↦ small v h
  | inr h ↦ elim h [ inl same ↦ subst (λ (u : Write). IsLarge u → ⊥) same one | inr none ↦ absurd none ]
]

pub put_fits : (ws all : List Write) (w : Write) (bytes size : ℕ) → all ≡ ws ++ w ∷ [] → bytes ≡ sum_by size_of ws → (IsTooLarge ws → ⊥) → size ≡ size_of w
    → (IsLarge w → ⊥) → length ws < most_entries → bytes + size ≤ most_bytes → (bytes + size ≡ sum_by size_of all) × (IsTooLarge all → ⊥)
put_fits ws all w bytes size is held fits sized small few room =
    let sum : bytes + size ≡ sum_by size_of all = omega (arith, held, sized, ap (sum_by size_of) is, bytes_more ws w) in
    let count : length all ≤ most_entries = omega (arith, ap (length {A = Write}) is, length_more ws w, few) in
    (sum, fits_from all count (omega (arith, sum, room)) (λ v has large. one_small ws w v (small_fit ws fits) small (subst (λ (l : List Write). Has l v) is has) large))

-- with it a limit is passed
pub put_full : (ws : List Write) (w : Write) (bytes size : ℕ) → bytes ≡ sum_by size_of ws → size ≡ size_of w → (most_entries ≤ length ws) ⊎ (most_bytes < bytes + size)
    → IsTooLarge (ws ++ w ∷ [])
put_full ws w bytes size held sized (inl many) = inl (omega (arith, many, length_more ws w))
put_full ws w bytes size held sized (inr much) = inr (inl (omega (arith, much, held, sized, bytes_more ws w)))
