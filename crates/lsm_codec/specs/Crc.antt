-- CRC-32C: the division of a message by Castagnoli's polynomial, one bit per step (LevelDB's
-- `util/crc32c.h`, RFC 3720).
use Rattle.std.specs.Prelude.{ℕ, zero, suc, ◌+◌, ◌-◌, ◌*◌, ◌/◌, ◌%◌, ◌^◌, bit_xor, List, [], ◌∷◌}
use Rattle.std.specs.List.{flat_map}

-- the polynomial, its lowest power in the highest bit
abbrev pub castagnoli : ℕ
castagnoli = 0x82F63B78

-- the lowest bits of a number, the lowest first
unfoldable pub low_bits : ℕ → ℕ → List ℕ
low_bits zero n = []
low_bits (suc count) n = n % 2 ∷ low_bits count (n / 2)

-- One step of the division: the register moves on by one bit, and the polynomial is subtracted
-- where the bit that falls out and the bit that comes in differ.
unfoldable pub divide_bit : ℕ → ℕ → ℕ
divide_bit register bit = bit_xor (register / 2) (castagnoli * ((register + bit) % 2))

-- the register after a list of bits
unfoldable pub divide : ℕ → List ℕ → ℕ
divide register [] = register
divide register (bit ∷ bits) = divide (divide_bit register bit) bits

-- the register after a list of bytes
unfoldable pub register_after : ℕ → List ℕ → ℕ
register_after register bytes = divide register (flat_map (low_bits 8) bytes)

-- every bit of a number of 32 bits turned
abbrev pub inverted : ℕ → ℕ
inverted n = 2 ^ 32 - 1 - n

-- the checksum of a message that follows one with this checksum
unfoldable pub crc_after : ℕ → List ℕ → ℕ
crc_after checksum bytes = inverted (register_after (inverted checksum) bytes)

-- the checksum of a message
unfoldable pub crc_of : List ℕ → ℕ
crc_of bytes = inverted (register_after (2 ^ 32 - 1) bytes)
