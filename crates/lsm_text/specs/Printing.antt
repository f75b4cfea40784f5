-- Text that goes to a writer, of which some is held back: this project's rule.
use Rattle.std.specs.Prelude.{◌≡◌, ℕ, List, [], ◌++◌, Option}
use Rattle.std.specs.Io.KnownBytes.{Appends}

-- The text was printed: what was held, and this text behind it, is what was written, and what is
-- held now behind that.
abbrev pub Passes : (old : Option (List ℕ)) (held : List ℕ) (new : Option (List ℕ))
    (left text : List ℕ) → Type 0
Passes old held new left text =
    (written : List ℕ) × Appends old new written × (held ++ text ≡ written ++ left)

-- Of what was held, and this text behind it, a beginning was written.
abbrev pub Stops : (old : Option (List ℕ)) (held : List ℕ) (new : Option (List ℕ)) (text : List ℕ)
    → Type 0
Stops old held new text = (lost : List ℕ) × Passes old held new lost text

-- A beginning of the text was written, and nothing else.
abbrev pub Begins : Option (List ℕ) → Option (List ℕ) → List ℕ → Type 0
Begins old new text = Stops old [] new text
