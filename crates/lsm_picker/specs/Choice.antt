-- Which compaction is chosen (after LevelDB's `doc/impl.md`, "Compactions"; the order in which
-- candidates are tried is this project's).
use Rattle.std.specs.Prelude.{◌≡◌, ℕ, ◌*◌, ◌<◌, ◌≤◌, Bool, true, false, List, [], ◌∷◌, Option, Some}
use Rattle.std.specs.Prelude.{None, slice_get, slice_index_or, ◌⊎◌}
use Rattle.std.specs.Ordering.{nat_cmp, ordering_then, is_gt}
use Rattle.std.specs.Cmp.Lexicographic.{slice_cmp}
use Rattle.std.specs.declared.cmp.Ordering.{Ordering}
use Rattle.lsm_codec.specs.Keys.{user_part, packed_part}
use Rattle.lsm_codec.specs.Lists.{Has}
use Rattle.lsm_table.specs.Registry.{Table}
use Rattle.lsm_version.specs.Versions.{Levels, file_of, level_in}
use Rattle.lsm_picker.specs.TablePlans.{TablePlan, IsPlanFrom}
use Rattle.lsm_picker.specs.Reservations.{Reserved, IsClear, IsHeldUp, is_taken}
use Rattle.lsm_picker.specs.Scores.{score}

-- ---- fractions

-- at least 1
abbrev pub IsDue : ℕ × ℕ → Type 0
IsDue p = p.1 ≤ p.0

abbrev pub IsGreaterScore : ℕ × ℕ → ℕ × ℕ → Type 0
IsGreaterScore p q = q.0 * p.1 < p.0 * q.1

abbrev pub AreEqual : ℕ × ℕ → ℕ × ℕ → Type 0
AreEqual p q = p.0 * q.1 ≡ q.0 * p.1

-- ---- compaction pointers

-- the bytes of internal keys: user keys ascending, of one user key the newest first
abbrev pub bytes_cmp : List ℕ → List ℕ → Ordering
bytes_cmp a b = ordering_then (slice_cmp nat_cmp (user_part a) (user_part b))
    (nat_cmp (packed_part b) (packed_part a))

-- the table's largest key is beyond the pointer, or there is none
abbrev pub is_beyond : Option (List ℕ) → Table → Bool
is_beyond None t = true
is_beyond (Some key) t = is_gt (bytes_cmp t.largest key)

-- the compaction pointer of a level
abbrev pub pointer_at : Levels → ℕ → Option (List ℕ)
pointer_at v level = slice_index_or v.pointers level None

-- ---- candidates

-- a table of a level, by its index there
pub record Candidate : Type 0 where
  pub level : ℕ
  pub index : ℕ
  pub table : Table

-- it stands there, and is no input of a live job
pub record IsFree (v : Levels) (rs : List Reserved) (c : Candidate) : Type 0 where
  pub stands : slice_get (level_in v.tables c.level) c.index ≡ Some c.table
  pub free : is_taken rs c.table ≡ false

-- the table may be the start of a compaction: its level has a score of at least 1
pub record IsCandidate (v : Levels) (rs : List Reserved) (c : Candidate) : Type 0 where
  pub level : c.level ≤ 5
  pub due : IsDue (score v rs c.level)
  pub free : IsFree v rs c

-- the greater score first, the lower level on a tie
abbrev pub IsLevelBefore : Levels → List Reserved → ℕ → ℕ → Type 0
IsLevelBefore v rs l m = IsGreaterScore (score v rs l) (score v rs m)
    ⊎ (AreEqual (score v rs l) (score v rs m) × (l < m))

-- in a level those beyond its pointer first, then the others, both in the level's order
abbrev pub IsTableBefore : Levels → Candidate → Candidate → Type 0
IsTableBefore v c d =
    ((is_beyond (pointer_at v c.level) c.table ≡ true)
    × (is_beyond (pointer_at v d.level) d.table ≡ false))
    ⊎ ((is_beyond (pointer_at v c.level) c.table ≡ is_beyond (pointer_at v d.level) d.table)
    × (c.index < d.index))

-- c is tried before d
abbrev pub IsTriedBefore : Levels → List Reserved → Candidate → Candidate → Type 0
IsTriedBefore v rs c d = IsLevelBefore v rs c.level d.level
    ⊎ ((c.level ≡ d.level) × IsTableBefore v c d)

-- the plan that starts from the candidate's table
pub record IsPlanOf (v : Levels) (c : Candidate) (p : TablePlan) : Type 0 where
  pub level : p.level ≡ c.level
  pub planned : IsPlanFrom v (Has (file_of c.level c.table ∷ [])) p

-- the candidate's plan conflicts with a live job
abbrev pub IsBlocked : Levels → List Reserved → Candidate → Type 0
IsBlocked v rs c = (p : TablePlan) × IsPlanOf v c p × IsHeldUp p rs

-- ---- the choice

-- The plan of the candidate that conflicts with no live job, while every candidate that is tried
-- before it does.
pub record IsChoice (v : Levels) (rs : List Reserved) (p : TablePlan) : Type 0 where
  pub start : Candidate
  pub candidate : IsCandidate v rs start
  pub planned : IsPlanOf v start p
  pub clear : IsClear p rs
  pub first : (c : Candidate) → IsCandidate v rs c → IsTriedBefore v rs c start → IsBlocked v rs c

-- there is no candidate, or the plan of each conflicts with a live job
abbrev pub HasNoChoice : Levels → List Reserved → Type 0
HasNoChoice v rs = (c : Candidate) → IsCandidate v rs c → IsBlocked v rs c

-- the plan that starts from a table of a level conflicts with a live job
abbrev pub IsBlockedAt : Levels → List Reserved → ℕ → Table → Type 0
IsBlockedAt v rs level t = (p : TablePlan) × (p.level ≡ level)
    × IsPlanFrom v (Has (file_of level t ∷ [])) p × IsHeldUp p rs

-- ---- how the code tries them: level by level, and in a level one side of the pointer after the
-- other

-- a free table of that level on that side of its pointer
pub record IsOnSide (v : Levels) (rs : List Reserved) (level : ℕ) (beyond : Bool) (c : Candidate)
    : Type 0 where
  pub level_is : c.level ≡ level
  pub free : IsFree v rs c
  pub side : is_beyond (pointer_at v level) c.table ≡ beyond

abbrev pub AllBlockedBeside : Levels → List Reserved → ℕ → Bool → Type 0
AllBlockedBeside v rs level beyond =
    (c : Candidate) → IsOnSide v rs level beyond c → IsBlocked v rs c

-- the plan of the first free table on that side that conflicts with no live job
pub record IsFirstClear (v : Levels) (rs : List Reserved) (level : ℕ) (beyond : Bool)
    (p : TablePlan) : Type 0 where
  pub start : Candidate
  pub on_side : IsOnSide v rs level beyond start
  pub planned : IsPlanOf v start p
  pub clear : IsClear p rs
  pub first : (c : Candidate) → IsOnSide v rs level beyond c → c.index < start.index
      → IsBlocked v rs c

abbrev pub AllBlocked : Levels → List Reserved → ℕ → Type 0
AllBlocked v rs level = (c : Candidate) → c.level ≡ level → IsFree v rs c → IsBlocked v rs c

-- the plan of the first free table of the level that conflicts with no live job
pub record IsLevelChoice (v : Levels) (rs : List Reserved) (level : ℕ) (p : TablePlan)
    : Type 0 where
  pub start : Candidate
  pub level_is : start.level ≡ level
  pub free : IsFree v rs start
  pub planned : IsPlanOf v start p
  pub clear : IsClear p rs
  pub first : (c : Candidate) → c.level ≡ level → IsFree v rs c → IsTableBefore v c start
      → IsBlocked v rs c
