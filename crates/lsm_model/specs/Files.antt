-- Files at their levels, and the law of a version (LevelDB's `doc/impl.md`, "Levels").
use Rattle.std.specs.Prelude.{◌≡◌, ℕ, ◌<◌, ◌≤◌, List, ◌⊎◌}
use Rattle.std.specs.List.{flat_map}
use Rattle.std.specs.declared.cmp.Ordering.TheVariants.{Less}
use Rattle.lsm_codec.specs.Lists.{Has}
use Rattle.lsm_codec.specs.Keys.{UserKey, UserLe}
use Rattle.lsm_codec.specs.Entries.{Entry, stamp, entry_cmp}

-- a table at its level: its least and its greatest user key, and its entries
pub record File : Type 0 where
  pub level : ℕ
  pub number : ℕ
  pub low : UserKey
  pub high : UserKey
  pub entries : List Entry

-- A version is its files, each with its level in it; it is read by membership alone.
-- all entries of the files
abbrev pub all_entries : List File → List Entry
all_entries v = flat_map (λ F. F.entries) v

-- the file's range of user keys and the range from low to high have a key in common
abbrev pub Meets : File → UserKey → UserKey → Type 0
Meets F low high = UserLe F.low high × UserLe low F.high

-- the two files' ranges of user keys have no key in common
abbrev pub Apart : File → File → Type 0
Apart F G = Meets F G.low G.high → ⊥

-- x stands before y in a table (LevelDB's `db/dbformat.h`)
abbrev pub Before : Entry → Entry → Type 0
Before x y = entry_cmp x y ≡ Less

-- all of F stands before all of G
abbrev pub IsAhead : File → File → Type 0
IsAhead F G = (x y : Entry) → Has F.entries x → Has G.entries y → Before x y

-- in internal keys: one of the two files ends before the other one begins
abbrev pub InOrder : File → File → Type 0
InOrder F G = IsAhead F G ⊎ IsAhead G F

-- no two entries have one user key and one stamp
abbrev pub OneEach : List Entry → Type 0
OneEach es = (x y : Entry) → Has es x → Has es y → x.user ≡ y.user → stamp x ≡ stamp y → x ≡ y

-- the file's range is that of its entries
pub record Fits (F : File) : Type 0 where
  pub above : (e : Entry) → Has F.entries e → UserLe F.low e.user
  pub below : (e : Entry) → Has F.entries e → UserLe e.user F.high
  pub first : (e : Entry) × Has F.entries e × (e.user ≡ F.low)
  pub last : (e : Entry) × Has F.entries e × (e.user ≡ F.high)
  pub one_each : OneEach F.entries

-- F lies at a lesser depth than G. Each file of level 0 is a depth of its own, the greatest number
-- first; the levels from 1 on follow.
abbrev pub Shallower : File → File → Type 0
Shallower F G = (F.level < G.level) ⊎ ((F.level ≡ 0) × (G.level ≡ 0) × (G.number < F.number))

-- The law of a version. The files of a level from 1 on lie in order of internal keys, so that a
-- user key may go on in the next file (`doc/impl.md`, "Levels"). That a key's entries are newer the
-- shallower they lie is what `doc/impl.md` builds on where it reads level by level.
pub record IsLawful (v : List File) : Type 0 where
  pub fits : (F : File) → Has v F → Fits F
  pub numbers : (F G : File) → Has v F → Has v G → F.number ≡ G.number → F ≡ G
  pub in_order : (F G : File) → Has v F → Has v G → F.level ≡ G.level → 1 ≤ F.level
      → (F.number ≡ G.number → ⊥) → InOrder F G
  pub depth : (F G : File) (x y : Entry) → Has v F → Has v G → Shallower F G → Has F.entries x
      → Has G.entries y
      → x.user ≡ y.user → y.seq < x.seq
