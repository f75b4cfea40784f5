-- The division by numbers of more than a bit: bytes, and words of 64 bits.
use Rattle.std.specs.Prelude.{ℕ, ◌+◌, ◌*◌, ◌/◌, ◌%◌, bit_xor, List, [], ◌∷◌, ◌++◌, slice_index}
use Rattle.lsm_codec.specs.Turns.{turns}

-- the number whose digits to the base 256 these are, the lowest first
unfoldable pub number : List ℕ → ℕ
number [] = 0
number (byte ∷ bytes) = byte + number bytes * 256

-- the register after a list of numbers, each of so many bits
unfoldable pub after_parts : (width register : ℕ) → List ℕ → ℕ
after_parts width register [] = register
after_parts width register (part ∷ parts) =
    after_parts width (turns width (bit_xor register part)) parts

-- number by number
unfoldable pub xor_parts : List ℕ → List ℕ → List ℕ
xor_parts (x ∷ xs) (y ∷ ys) = bit_xor x y ∷ xor_parts xs ys
xor_parts [] ys = []
xor_parts (x ∷ xs) [] = []

-- ---- by four vectors of 32 bytes that stand one after another

unfoldable pub after_vectors : (first second third fourth : List ℕ) → ℕ
after_vectors first second third fourth =
    after_parts 8 0 (first ++ (second ++ (third ++ fourth)))

-- what a byte comes to by two tables, of its lower half and its upper one
abbrev pub spread : (low high : List ℕ) → (byte : ℕ) → ℕ
spread low high byte = bit_xor (slice_index low (byte % 16)) (slice_index high (byte / 16))
