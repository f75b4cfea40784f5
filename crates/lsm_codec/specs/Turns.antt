-- The division where only bits of 0 come in: what the tables hold.
use Rattle.std.specs.Prelude.{ℕ, zero, suc, ◌*◌, ◌/◌, ◌%◌, bit_xor}
use Rattle.lsm_codec.specs.Crc.{castagnoli}

-- a step at which no bit comes in
unfoldable pub shift : ℕ → ℕ
shift n = bit_xor (n / 2) (castagnoli * (n % 2))

unfoldable pub turns : ℕ → ℕ → ℕ
turns zero n = n
turns (suc count) n = turns count (shift n)
