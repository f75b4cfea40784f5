-- A plain table in the making, with its first key (this project's rule).
use Rattle.std.specs.Prelude.{ℕ, List, [], ◌∷◌, Option, Some, None}
use Rattle.std.specs.Option.{option_map}
use Rattle.lsm_codec.specs.Entries.{Entry, internal_key}
use Rattle.lsm_codec.specs.Keys.{IsKey}
use Rattle.lsm_inflate.specs.declared.plain_table.PlainTable.{PlainTable}

-- the bytes are those of the first entry's key, where there is one
abbrev pub IsFirst : Option (List ℕ) → List Entry → Type 0
IsFirst None [] = Unit {0}
IsFirst (Some smallest) (e ∷ es) = IsKey smallest (internal_key e)
IsFirst _ _ = ⊥

abbrev pub plain_bytes : Option PlainTable → Option (List ℕ)
plain_bytes plain = option_map (λ p. p.bytes.items) plain
