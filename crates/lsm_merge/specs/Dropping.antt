-- A merge under way: what it drops, by the entry before, and what it has made.
use Rattle.std.specs.Prelude.{◌≡◌, ℕ, ◌&&◌, Bool, true, not, cond, List, [], ◌∷◌, ◌++◌, Option}
use Rattle.std.specs.Prelude.{Some, None}
use Rattle.std.specs.Ordering.{is_lt, is_le}
use Rattle.lsm_codec.specs.Lists.{Has}
use Rattle.lsm_codec.specs.Keys.{InternalKey, UserKey, key_cmp}
use Rattle.lsm_codec.specs.Entries.{Entry, internal_key}
use Rattle.lsm_block.specs.Building.{last_key}
use Rattle.lsm_model.specs.Files.{Before}
use Rattle.lsm_model.specs.Kept.{is_void, kept_entries}
use Rattle.lsm_model.specs.Streams.{IsAscending, is_shadowed}
use Rattle.lsm_merge.specs.Cuts.{closes, is_empty, IsCutBy}

-- whether the entry is kept after the one before it
abbrev pub is_kept : ℕ → List (UserKey × UserKey) → Option Entry → Entry → Bool
is_kept floor ranges before e = not (is_shadowed floor before e) && not (is_void floor ranges e)

-- the entry before e, if there is one, stands before e
abbrev pub Follows : Option Entry → Entry → Type 0
Follows None e = Unit {0}
Follows (Some p) e = Before p e

-- its test
abbrev pub follows : Option Entry → InternalKey → Bool
follows None key = true
follows (Some p) key = is_lt (key_cmp (internal_key p) key)

-- the entries ascend, and the entry before them stands before each
abbrev pub AscendingAfter : Option Entry → List Entry → Type 0
AscendingAfter before es = ((e : Entry) → Has es e → Follows before e) × IsAscending es

-- the key does not stand after the entry, which is there
abbrev pub IsAtMost : InternalKey → Option Entry → Type 0
IsAtMost key None = ⊥
IsAtMost key (Some p) = is_le (key_cmp key (internal_key p)) ≡ true

-- no entry of the output in the making stands after the entry before
abbrev pub IsUpTo : List Entry → Option Entry → Type 0
IsUpTo es before = (key : InternalKey) → last_key es ≡ Some key → IsAtMost key before

-- the finished outputs, and the unfinished one, without entries where there is none
pub record Making : Type 0 where
  pub outputs : List (List Entry)
  pub output : List Entry

-- the unfinished one among the finished
abbrev pub shut : Making → Making
shut m = record { outputs = m.outputs ++ m.output ∷ []; output = [] }

abbrev pub with_entry : Entry → Making → Making
with_entry e m = record { outputs = m.outputs; output = m.output ++ e ∷ [] }

-- the unfinished output is closed before an entry of this user key where it is time
abbrev pub shut_before : (List Entry → ℕ) → ℕ → Making → UserKey → Making
shut_before size target m k = cond (closes size target m.output k) (shut m) m

-- with one entry more, before which the unfinished output may be closed
abbrev pub placed : (List Entry → ℕ) → ℕ → Making → Entry → Making
placed size target m e = with_entry e (shut_before size target m e.user)

-- the unfinished one among the finished, where it has an entry
abbrev pub closed : Making → List (List Entry)
closed m = cond (is_empty m.output) m.outputs (m.outputs ++ m.output ∷ [])

-- What a merge of entries makes: they ascend, and the kept ones are cut.
pub record IsMerged (floor : ℕ) (ranges : List (UserKey × UserKey)) (size : List Entry
    → ℕ) (target : ℕ) (merged : List Entry) (outputs : List (List Entry)) : Type 0 where
  pub ascending : IsAscending merged
  pub cuts : IsCutBy size target (kept_entries merged floor ranges) outputs
