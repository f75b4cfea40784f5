-- The live snapshots (LevelDB's `db/snapshot.h`).
use Rattle.std.specs.Prelude.{◌≡◌, ℕ, ◌<◌, List}
use Rattle.lsm_codec.specs.Lists.{Has}
use Rattle.lsm_model.specs.Law.{AreRising}

-- ids and sequences, the oldest first, and the id that comes next
pub record Taken : Type 0 where
  pub taken : List (ℕ × ℕ)
  pub next : ℕ

-- A later snapshot has a greater id and no lesser sequence, and the next id is above all.
pub record AreSnapshots (s : Taken) : Type 0 where
  pub rising : AreRising s.taken
  pub ids : (p : ℕ × ℕ) → Has s.taken p → p.0 < s.next

-- a snapshot of this id is live
abbrev pub HasId : List (ℕ × ℕ) → ℕ → Type 0
HasId taken id = (p : ℕ × ℕ) × Has taken p × (p.0 ≡ id)
