-- What the loops keep that write the one edit of a shape.
use Rattle.std.proofs.Common.{◌≡◌, ℕ, List, ◌++◌, drop}

-- what is written so far and what is to come
abbrev pub Written : {X Y : Type 0} → (ℕ → List X → List Y) → List X → ℕ → List Y → Type 0
Written from xs i written = written ++ from i (drop i xs) ≡ from 0 xs
