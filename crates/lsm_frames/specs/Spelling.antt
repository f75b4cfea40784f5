-- What is spelled of a request so far.
use Rattle.std.specs.Prelude.{◌≡◌, ℕ, ◌<◌, List, get_or, [], ◌∷◌, ◌++◌, Option, IfSome}
use Rattle.lsm_frames.specs.Texts.{optional}
use Rattle.lsm_frames.specs.Requests.{Asked, FitsText, Fits, spelled, Writes, Reads, Scans}
use Rattle.lsm_frames.specs.Requests.{Snapshots, Releases, Compacts, CompactsRange, Collects}
use Rattle.lsm_frames.specs.Requests.{Statistics}

-- room for the length, and the request, which fits its form
pub record Spells (bytes : List ℕ) (asked : Asked) : Type 0 where
  pub parts : bytes ≡ 0 ∷ 0 ∷ 0 ∷ 0 ∷ spelled asked
  pub fits : Fits asked

-- the new bytes are the old ones and an optional text, which fits its length
pub record Adds (old new : List ℕ) (bound : Option (List ℕ)) : Type 0 where
  pub parts : new ≡ old ++ optional bound
  pub fits : IfSome bound FitsText

abbrev pub AreBytes : List ℕ → Type 0
AreBytes bytes = (i : ℕ) → get_or bytes i 0 < 256

-- It has no write, or no key.
abbrev pub IsEmpty : Asked → Type 0
IsEmpty (Writes ws) = ws ≡ []
IsEmpty (Reads when keys) = keys ≡ []
IsEmpty (Scans s) = ⊥
IsEmpty Snapshots = ⊥
IsEmpty (Releases number) = ⊥
IsEmpty Compacts = ⊥
IsEmpty (CompactsRange b) = ⊥
IsEmpty Collects = ⊥
IsEmpty Statistics = ⊥
