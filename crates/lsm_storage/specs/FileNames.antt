-- The names of a database's files (LevelDB's `doc/impl.md`: sorted tables, manifest, current).
use Rattle.std.specs.Prelude.{◌≡◌, ℕ, ◌-◌, ◌<◌, ◌^◌, List, [], ◌∷◌, ◌++◌, length, replicate, codes}
use Rattle.std.specs.Prelude.{decimal, Option, Some}

-- a number in decimal, with zeros in front to at least six digits
abbrev pub padded : ℕ → List ℕ
padded n = replicate (6 - length (decimal n)) 48 ++ decimal n

abbrev pub table_name : ℕ → List ℕ
table_name n = padded n ++ codes ".ldb"

abbrev pub manifest_name : ℕ → List ℕ
manifest_name n = codes "MANIFEST-" ++ padded n

abbrev pub temporary_name : ℕ → List ℕ
temporary_name n = padded n ++ codes ".dbtmp"

-- what the file `CURRENT` holds: the manifest's name and one newline
abbrev pub current_text : ℕ → List ℕ
current_text n = manifest_name n ++ 10 ∷ []

-- no text of `CURRENT` that names a manifest has more bytes
abbrev pub longest_current : ℕ
longest_current = 30

-- the number, or none, of which the text is the spelling
abbrev pub IsNumberOf : (spell : ℕ → List ℕ) (text : List ℕ) → Option ℕ → Type 0
IsNumberOf spell text o = (n : ℕ)
    → (o ≡ Some n → text ≡ spell n) × (n < 2 ^ 64 → text ≡ spell n → o ≡ Some n)
