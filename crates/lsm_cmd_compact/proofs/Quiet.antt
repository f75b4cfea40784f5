-- What is written on standard error where no progress is asked for.
use Rattle.std.proofs.Common.{◌≡◌, ℕ, List, Option, Bool}
use Rattle.std.specs.Prelude.{IsFalse}
use Rattle.std.specs.Io.KnownBytes.{Keeps}
use Rattle.std.proofs.KnownBytes.{Keeps-trans}

pub quiet_then : (asked : Bool) (a b c : Option (List ℕ)) → (IsFalse asked → Keeps a b) → (IsFalse asked → Keeps b c) → IsFalse asked → Keeps a c
quiet_then asked a b c p q h = Keeps-trans a b c (p h) (q h)

-- quiet in any case, then where the status is 0
pub quietly : (status : ℕ) (asked : Bool) (a b c : Option (List ℕ)) → (IsFalse asked → Keeps a b) → (status ≡ 0 → Keeps b c) → status ≡ 0
    → IsFalse asked → Keeps a c
quietly status asked a b c p q done h = Keeps-trans a b c (p h) (q done)
