-- The last value in a list.
use Rattle.std.specs.Prelude.{List, [], ◌∷◌, Option, None}
use Rattle.std.specs.Option.{option_or}

-- what the last element gives that gives something
unfoldable pub last_by : {X A : Type 0} → (X → Option A) → List X → Option A
last_by pick [] = None
last_by pick (x ∷ xs) = option_or (last_by pick xs) (pick x)
