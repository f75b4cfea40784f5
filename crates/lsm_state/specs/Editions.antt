-- Which version has had which id (this project's rule).
use Rattle.std.specs.Prelude.{◌≡◌, ℕ, ◌≤◌, List}
use Rattle.lsm_codec.specs.Lists.{Has}
use Rattle.lsm_history.specs.History.{Edition}
use Rattle.lsm_version.specs.Versions.{Levels, numbers_in}
use Rattle.lsm_slots.specs.Slots.{Epoch, HasEpoch, Slotted, current_id}

-- a version under an id
abbrev pub edition : ℕ → Levels → Edition
edition id v = record { id = id; tables = numbers_in v }

-- Each version in a slot is listed under its id. No id is above the current one, and none stands
-- for two.
pub record AreEditions (s : Slotted) (editions : List Edition) : Type 0 where
  pub each : (slot : ℕ) (e : Epoch) → HasEpoch s slot e → Has editions (edition e.id e.version)
  pub upto : (x : Edition) → Has editions x → x.id ≤ current_id s
  pub one : (x y : Edition) → Has editions x → Has editions y → x.id ≡ y.id → x ≡ y
