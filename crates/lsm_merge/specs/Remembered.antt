-- What a merge remembers of the entry before.
use Rattle.std.specs.Prelude.{ℕ, [], Option, Some, None}
use Rattle.std.specs.Ordering.{nat_cmp}
use Rattle.std.specs.declared.cmp.Ordering.{Ordering}
use Rattle.std.specs.Cmp.Lexicographic.{slice_cmp}
use Rattle.lsm_codec.specs.declared.kind.Kind.{Kind}
use Rattle.lsm_codec.specs.Keys.{UserKey}
use Rattle.lsm_codec.specs.Entries.{Entry}
use Rattle.lsm_iterators.specs.Runs.{Left}

-- what is left of the inputs, and the entry before, if there is one
pub record Streaming : Type 0 where
  pub left : Left
  pub before : Option Entry

-- an entry by its key, if its user key is there
abbrev pub entry_passed : Option UserKey → ℕ → Kind → Option Entry
entry_passed None seq kind = None
entry_passed (Some user) seq kind =
    Some (record { user = user; seq = seq; kind = kind; value = [] })

-- how a user key, if there is one, stands to another one
abbrev pub order_to : Option UserKey → UserKey → Option Ordering
order_to None user = None
order_to (Some own) user = Some (slice_cmp nat_cmp own user)

-- an entry without its value
abbrev pub bare : Entry → Entry
bare e = record { user = e.user; seq = e.seq; kind = e.kind; value = [] }
