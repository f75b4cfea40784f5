-- Rising numbers, by neighbours.
use Rattle.std.proofs.Common.{ℕ, zero, suc, ◌≤◌, length, get_or, take, drop, List, [], ◌∷◌, refl, inl, arith}
use Rattle.lsm_live.specs.Booked.{AreIncreasing}

-- A list whose second number is not above its first one does not rise.
pub falls_at : (ns : List ℕ) (n : ℕ) → 1 ≤ length (take n (drop 1 ns)) → get_or (take n (drop 1 ns)) 0 0 ≤ get_or ns 0 0 → AreIncreasing ns → ⊥
falls_at [] zero some le r = absurd (omega arith)
falls_at [] (suc n) some le r = absurd (omega arith)
falls_at (a ∷ []) zero some le r = absurd (omega arith)
falls_at (a ∷ []) (suc n) some le r = absurd (omega arith)
falls_at (a ∷ b ∷ ns) zero some le r = absurd (omega arith)
falls_at (a ∷ b ∷ ns) (suc n) some le r = (let lt = r.0 b (inl refl) in absurd (omega arith))
