-- The first entry of a list of entries with their depths, and what is left behind it.
use Rattle.std.specs.Prelude.{ℕ, Bool, true, false, List, [], ◌∷◌, Option, Some, None}
use Rattle.std.specs.Ordering.{is_le}
use Rattle.lsm_codec.specs.Keys.{UserKey, InternalKey, key_cmp}
use Rattle.lsm_codec.specs.Entries.{internal_key}
use Rattle.lsm_model.specs.Merging.{Placed}

abbrev pub first_of : List Placed → Option Placed
first_of [] = None
first_of (p ∷ ps) = Some p

-- without its first entry; nothing where there is none
abbrev pub after_first : List Placed → List Placed
after_first [] = []
after_first (p ∷ ps) = ps

abbrev pub no_more : List Placed → Bool
no_more [] = true
no_more (p ∷ ps) = false

-- the key of an entry, if there is one
abbrev pub key_in : Option Placed → Option InternalKey
key_in None = None
key_in (Some p) = Some (internal_key p.1)

-- its user key; no bytes where there is none
abbrev pub user_in : Option Placed → UserKey
user_in None = []
user_in (Some p) = p.1.user

-- the user key of a key; no bytes where there is none
abbrev pub user_named : Option InternalKey → UserKey
user_named None = []
user_named (Some key) = key.user

-- the value of an entry; no bytes where there is none
abbrev pub value_in : Option Placed → List ℕ
value_in None = []
value_in (Some p) = p.1.value

-- the depth of its source, or the number of its file; 0 where there is none
abbrev pub source_in : Option Placed → ℕ
source_in None = 0
source_in (Some p) = p.0

-- a first key may be handed out before the other one
abbrev pub leads_by : Option InternalKey → Option InternalKey → Bool
leads_by None other = false
leads_by (Some own) None = true
leads_by (Some own) (Some other) = is_le (key_cmp own other)
