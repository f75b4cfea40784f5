-- What a read finds: nothing, a deletion, or a value (LevelDB's `doc/impl.md`).
use Rattle.std.specs.Prelude.{ℕ, List, Option, Some, None}
use Rattle.std.specs.Option.{option_map}
use Rattle.lsm_codec.specs.Entries.{Entry, shown}
use Rattle.lsm_table.specs.declared.found.Found.{Found}
use Rattle.lsm_table.specs.declared.found.Found.TheVariants.{Value, Deleted}

-- a value, or nothing for a deletion
abbrev pub value_of : Found → Option (List ℕ)
value_of (Value bytes) = Some bytes.items
value_of Deleted = None

-- what was found, as contracts see it: nothing, nothing in a deletion, or a value
abbrev pub seen : Option Found → Option (Option (List ℕ))
seen found = option_map value_of found

-- what a read finds in the newest entry that it may see
abbrev pub found_in : Option Entry → Option (Option (List ℕ))
found_in None = None
found_in (Some e) = Some (shown e.kind e.value)
