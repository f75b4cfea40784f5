-- The mask under which checksums are stored (LevelDB's `util/crc32c.h`).
use Rattle.std.specs.Prelude.{ℕ, ◌+◌, ◌-◌, ◌*◌, ◌/◌, ◌%◌, ◌^◌}

-- a number of 32 bits turned right by so many of them
abbrev pub turned_right : ℕ → ℕ → ℕ
turned_right bits n = n / 2 ^ bits + n % 2 ^ bits * 2 ^ (32 - bits)

abbrev pub masked : ℕ → ℕ
masked checksum = (turned_right 15 checksum + 0xa282ead8) % 2 ^ 32

abbrev pub unmasked : ℕ → ℕ
unmasked stored = turned_right 17 ((stored + (2 ^ 32 - 0xa282ead8)) % 2 ^ 32)
