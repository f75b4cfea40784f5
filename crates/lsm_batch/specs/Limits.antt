-- The limits of a batch, of the keys and values in it, and of those in a list of entries: this
-- project's rule.
use Rattle.std.specs.Prelude.{ℕ}

-- the most entries of a batch
abbrev pub most_entries : ℕ
most_entries = 65536

-- the most bytes of its keys and values together: 4 MiB
abbrev pub most_bytes : ℕ
most_bytes = 4194304

-- the most bytes of a key
abbrev pub most_key : ℕ
most_key = 4096

-- the most bytes of a value: 1 MiB
abbrev pub most_value : ℕ
most_value = 1048576
