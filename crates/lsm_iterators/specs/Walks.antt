-- A merge that remembers the user key of an entry which it passed.
use Rattle.std.specs.Prelude.{Bool, true, false, Option, Some, None}
use Rattle.std.specs.Ordering.{nat_cmp}
use Rattle.std.specs.declared.cmp.Ordering.{Ordering}
use Rattle.std.specs.Cmp.Lexicographic.{slice_cmp}
use Rattle.lsm_codec.specs.Keys.{UserKey}
use Rattle.lsm_model.specs.Merging.{Placed}
use Rattle.lsm_model.specs.Scanning.{is_answered}
use Rattle.lsm_iterators.specs.Runs.{Left}
use Rattle.lsm_iterators.specs.declared.walk.FirstKey.{FirstKey}

-- what is left of the merge, and the user key that is remembered, if one is
pub record Walking : Type 0 where
  pub left : Left
  pub passed : Option UserKey

abbrev pub passed_if : Bool → UserKey → Option UserKey
passed_if false user = None
passed_if true user = Some user

-- What is told of the first entry, if there is one: its sequence, its kind, and whether its user
-- key is the one that is remembered.
abbrev pub told_first : Option UserKey → Option Placed → Option FirstKey
told_first passed None = None
told_first passed (Some p) = Some
    (record { seq = p.1.seq; kind = p.1.kind; is_same = is_answered passed p.1.user })

-- How the user key that is remembered stands to that of the first entry, where both are there.
abbrev pub order_first : Option UserKey → Option Placed → Option Ordering
order_first None p = None
order_first (Some own) None = None
order_first (Some own) (Some p) = Some (slice_cmp nat_cmp own p.1.user)

-- what is remembered then: the user key of the entry, if there is one
abbrev pub passed_by : Option UserKey → Option Placed → Option UserKey
passed_by passed None = passed
passed_by passed (Some p) = Some p.1.user
