-- Jobs, what a live job may rest on in a version, and what its install changes (LevelDB's
-- `doc/impl.md`, "Compactions"; several jobs at a time are this project's).
use Rattle.std.specs.Prelude.{◌≡◌, ℕ, suc, ◌<◌, ◌≤◌, Bool, true, false, List, [], ◌∷◌, ◌==◌, ◌⊎◌}
use Rattle.std.specs.List.{list_any}
use Rattle.lsm_codec.specs.Lists.{Has}
use Rattle.lsm_codec.specs.Keys.{UserKey, UserLe}
use Rattle.lsm_codec.specs.Entries.{Entry}
use Rattle.lsm_model.specs.Files.{File, all_entries, Meets, Apart, Fits}
use Rattle.lsm_model.specs.Kept.{covers}

-- a merge of files of one level and the next; low and high are its hull, floor the least sequence
-- that reads still use, and ranges the user ranges of all files two or more levels below
pub record Job : Type 0 where
  pub ticket : ℕ
  pub level : ℕ
  pub inputs : List File
  pub low : UserKey
  pub high : UserKey
  pub floor : ℕ
  pub ranges : List (UserKey × UserKey)
  pub is_move : Bool

-- an input by its number
abbrev pub is_input : Job → File → Bool
is_input job F = list_any (λ G. G.number == F.number) job.inputs

-- two jobs share an input
abbrev pub Shares : Job → Job → Type 0
Shares a b = (F : File) × (G : File) × Has a.inputs F × Has b.inputs G × (F.number ≡ G.number)

-- two jobs share an input, or have one output level and hulls that meet (this project's rule)
abbrev pub Conflicts : Job → Job → Type 0
Conflicts a b = Shares a b ⊎ ((a.level ≡ b.level) × UserLe a.low b.high × UserLe b.low a.high)

-- What a live job may rest on in the version, whatever came since it was reserved (this project's
-- rule).
pub record IsOpenIn (v : List File) (job : Job) : Type 0 where
  -- the inputs lie in the version, at the job's level and the next, within the hull
  pub inputs : (F : File) → Has job.inputs F → Has v F
  pub levels : (F : File) → Has job.inputs F → (F.level ≡ job.level) ⊎ (F.level ≡ suc job.level)
  pub hull : (F : File) → Has job.inputs F → UserLe job.low F.low × UserLe F.high job.high
  -- no other file of the output level meets the hull
  pub alone : (F : File) → Has v F → F.level ≡ suc job.level → Meets F job.low job.high
      → Has job.inputs F
  -- what else the level above the output has of an input's key is newer
  pub newer : (F G : File) (x y : Entry) → Has v F → F.level ≡ job.level → is_input job F ≡ false
      → Has job.inputs G
      → Has F.entries x → Has G.entries y → x.user ≡ y.user → y.seq < x.seq
  -- what lies two or more levels below the job's has an input's key only where a range covers it
  pub below : (F G : File) (x y : Entry) → Has v F → suc (suc job.level) ≤ F.level
      → Has job.inputs G
      → Has F.entries x → Has G.entries y → x.user ≡ y.user → covers job.ranges y.user ≡ true

-- reads go on from the job's floor
pub record FloorHolds (last : ℕ) (snapshots : List (ℕ × ℕ)) (job : Job) : Type 0 where
  pub at_last : job.floor ≤ last
  pub at_snapshots : (p : ℕ × ℕ) → Has snapshots p → job.floor ≤ p.1

-- outs hold the entries K, at that level, each in its range, apart, under different numbers
pub record Holds (level : ℕ) (K : List Entry) (outs : List File) : Type 0 where
  pub levels : (F : File) → Has outs F → F.level ≡ level
  pub fits : (F : File) → Has outs F → Fits F
  pub from : (F : File) (e : Entry) → Has outs F → Has F.entries e → Has K e
  pub to : (e : Entry) → Has K e → Has (all_entries outs) e
  pub apart : (F G : File) → Has outs F → Has outs G → (F.number ≡ G.number → ⊥) → Apart F G
  pub numbers : (F G : File) → Has outs F → Has outs G → F.number ≡ G.number → F ≡ G

-- the same, under numbers that no file has that stays
pub record AreOutputs (v : List File) (job : Job) (K : List Entry) (outs : List File) : Type 0 where
  pub holds : Holds (suc job.level) K outs
  pub open holds use *
  pub fresh : (F G : File) → Has outs F → Has v G → is_input job G ≡ false → F.number ≡ G.number → ⊥

-- w is v without the inputs, and with the outputs
pub record Changed (v : List File) (job : Job) (outs w : List File) : Type 0 where
  pub from : (F : File) → Has w F → Has outs F ⊎ (Has v F × (is_input job F ≡ false))
  pub stays : (F : File) → Has v F → is_input job F ≡ false → Has w F
  pub added : (F : File) → Has outs F → Has w F

abbrev pub at_level : ℕ → File → File
at_level n F = record F { level = n }

-- a move's output is its one input, one level down
abbrev pub IsMove : Job → List File → Type 0
IsMove job outs = (F : File) × (job.inputs ≡ F ∷ []) × (outs ≡ at_level (suc job.level) F ∷ [])

-- w is v with one file more, of level 0, under a new number, with sequences above the last
pub record Gains (v : List File) (last : ℕ) (file : File) (w : List File) : Type 0 where
  pub level : file.level ≡ 0
  pub fits : Fits file
  pub above : (e : Entry) → Has file.entries e → last < e.seq
  pub greatest : (F : File) → Has v F → F.number < file.number
  pub from : (F : File) → Has w F → (file ≡ F) ⊎ Has v F
  pub stays : (F : File) → Has v F → Has w F
  pub added : Has w file
