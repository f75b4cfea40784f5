-- When the reads that a witness let through were answered with the truth (this project's rule).
use Rattle.std.specs.Prelude.{◌≡◌, ℕ, List, take, drop}

-- each read that happened was answered with that part of the file's image
abbrev pub TellsTruth : ((image : List ℕ) (offset len : ℕ) (bytes : List ℕ) → Type 0) → Type 0
TellsTruth happened = (image : List ℕ) (offset len : ℕ) (bytes : List ℕ)
    → happened image offset len bytes → bytes ≡ take len (drop offset image)

-- what follows from a premise is true in one way, where it is so without
pub premised-prop : {A B : Type 0} → IsProp B → IsProp (A → B)
premised-prop p f g = λ i. λ a. p (f a) (g a) i
