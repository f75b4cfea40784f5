-- The limits of a batch, of one write more.
use Rattle.std.proofs.Common.{◌≡◌, ℕ, ◌+◌, ◌<◌, ◌≤◌, List, [], ◌∷◌, ◌++◌, length, ap, ◌∙◌, inl, inr, arith, length-append}
use Rattle.std.specs.Prelude.{sum_by}
use Rattle.std.proofs.lemmas.List.Sums.{sum_by-append}
use Rattle.lsm_codec.specs.Lists.{Has}
use Rattle.lsm_batch.specs.Batches.{IsLarge, IsTooLarge, size_of}
use Rattle.lsm_batch.specs.Limits.{most_bytes, most_entries}
use Rattle.lsm_batch.specs.declared.write.Write.{Write}

pub length_more : (ws : List Write) (w : Write) → length (ws ++ w ∷ []) ≡ length ws + 1
length_more ws w = length-append ws (w ∷ [])

pub bytes_more : (ws : List Write) (w : Write) → sum_by size_of (ws ++ w ∷ []) ≡ sum_by size_of ws + size_of w
bytes_more ws w = let e = sum_by-append size_of ws (w ∷ []) in let z : sum_by size_of (w ∷ []) ≡ size_of w = omega arith in e ∙ ap (λ n. sum_by size_of ws + n) z

pub few_fit : (ws : List Write) → (IsTooLarge ws → ⊥) → (length ws ≤ most_entries) × (sum_by size_of ws ≤ most_bytes)
few_fit ws h = (few_of (length ws) most_entries (λ b. h (inl b)), few_of (sum_by size_of ws) most_bytes (λ b. h (inr (inl b))))
  where
    few_of : (n m : ℕ) → (m < n → ⊥) → n ≤ m
    few_of n m h = omega arith

pub small_fit : (ws : List Write) → (IsTooLarge ws → ⊥) → (w : Write) → Has ws w → IsLarge w → ⊥
small_fit ws h w has large = h (inr (inr (w, has, large)))

pub fits_from : (ws : List Write) → length ws ≤ most_entries → sum_by size_of ws ≤ most_bytes → ((w : Write) → Has ws w → IsLarge w → ⊥) → IsTooLarge ws → ⊥
fits_from ws few bytes small (inl b) = omega (arith, few, b)
fits_from ws few bytes small (inr (inl b)) = omega (arith, bytes, b)
fits_from ws few bytes small (inr (inr b)) = small b.0 b.1 b.2
