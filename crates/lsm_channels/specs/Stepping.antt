-- How a page goes on along a scan.
use Rattle.std.specs.Prelude.{◌≡◌, ◌≢◌, ⊤, ℕ, ◌+◌, true, false, List, [], ◌∷◌, ◌++◌, length, Option}
use Rattle.std.specs.Prelude.{None, Some}
use Rattle.lsm_codec.specs.Keys.{UserKey}
use Rattle.lsm_frames.specs.Answers as frames
use Rattle.lsm_model.specs.Scanning.{Pair}
use Rattle.lsm_channels.specs.declared.turn.Turn.{Turn}
use Rattle.lsm_channels.specs.declared.turn.Turn.TheVariants.{Next, Full, Ended}
use Rattle.lsm_channels.specs.Reading.{IsTooLong}
use Rattle.lsm_channels.specs.Scanning.{IsFull, below, is_below, pair_of}

-- the pair that was taken off a scan, and those that are left of it; none is left where none could
-- be taken
abbrev pub ahead : Option Pair → List Pair → List Pair
ahead None left = []
ahead (Some p) left = p ∷ left

-- One turn: the page was not full, the first pair was added, and others are ahead; or the page is
-- full, and a pair is left; or none is.
abbrev pub Turns : Option UserKey → ℕ → List Pair → Turn → List Pair → (old new : List frames.Pair)
    → Type 0
Turns to limit all (Next next) left old new =
    (p : Pair) × (all ≡ p ∷ ahead next left) × (is_below to p.0 ≡ true)
    × (new ≡ old ++ pair_of p ∷ []) × (IsFull limit old → ⊥)
Turns to limit all Full left old new = (below to all ≢ []) × IsFull limit new × (new ≡ old)
Turns to limit all Ended left old new = (below to all ≡ []) × (new ≡ old)

-- a turn that added a pair added one
abbrev pub Grows : Turn → (old new : List frames.Pair) → Type 0
Grows (Next next) old new = length new ≡ length old + 1
Grows Full old new = ⊤
Grows Ended old new = ⊤

-- The page was not full, and no answer has room for the first pair behind it.
abbrev pub IsLongTurn : Option UserKey → ℕ → List Pair → List frames.Pair → Type 0
IsLongTurn to limit all old = (p : Pair) × (rest : List Pair) × (all ≡ p ∷ rest)
    × (is_below to p.0 ≡ true) × (IsFull limit old → ⊥)
    × IsTooLong (frames.Shown false (old ++ pair_of p ∷ []))
