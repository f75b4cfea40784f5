-- The names of a folder in memory (this project's rule).
use Rattle.std.specs.Prelude.{◌≡◌, ℕ, List, Option, None, String, string_bytes}
use Rattle.std.specs.BTreeMap.{BTreeMap, IsClone, get_by_text}
use Rattle.std.specs.Map.{update}
use Rattle.std.specs.Str.{bytes_eq}

module _ {X Y : Type 0} where
  -- the second map has this at the name, or nothing, and at each other name what the first has
  abbrev pub Names : (old new : BTreeMap (String Y) X) (name : List ℕ) → Option X → Type 0
  Names old new name w = (q : List ℕ)
      → get_by_text new q ≡ update bytes_eq (get_by_text old) name w q

  -- the second map has at the second name what the first has at the first, nothing at the first,
  -- and else what the first has
  abbrev pub Moves : (old new : BTreeMap (String Y) X) (from to : List ℕ) → Type 0
  Moves old new from to = (q : List ℕ)
      → get_by_text new q ≡ update bytes_eq
      (update bytes_eq (get_by_text old) to (get_by_text old from)) from None q

module _ {Y : Type 0} where
  -- the second map has the same names with the same files, in the same order
  abbrev pub IsCopy : (old new : BTreeMap (String Y) ℕ) → Type 0
  IsCopy old new = IsClone (λ s t. string_bytes t ≡ string_bytes s) (λ x y. y ≡ x) old new
