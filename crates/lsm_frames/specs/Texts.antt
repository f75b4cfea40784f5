-- Numbers, texts and frames (docs/PROTOCOL.md, this project's rule). Numbers have their lowest byte
-- first.
use Rattle.std.specs.Prelude.{ℕ, List, ◌∷◌, [], ◌++◌, length, Option, None, Some}
use Rattle.std.specs.Int.{w32, w64, to_le_bytes}

abbrev pub number32 : ℕ → List ℕ
number32 n = to_le_bytes w32 n

abbrev pub number64 : ℕ → List ℕ
number64 n = to_le_bytes w64 n

-- a length in four bytes, and so many bytes
unfoldable pub text : List ℕ → List ℕ
text bytes = number32 (length bytes) ++ bytes

-- nothing, or a text
abbrev pub optional : Option (List ℕ) → List ℕ
optional None = 0 ∷ []
optional (Some bytes) = 1 ∷ text bytes

-- A frame: the length of what follows, and that.
abbrev pub frame : List ℕ → List ℕ
frame content = text content
