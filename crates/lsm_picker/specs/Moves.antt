-- Which compactions only move a file (LevelDB's `doc/impl.md`, "Compactions", and
-- `Compaction::IsTrivialMove`).
use Rattle.std.specs.Prelude.{◌≡◌, ℕ, suc, ◌*◌, ◌≤◌, false, [], length}
use Rattle.lsm_codec.specs.Lists.{Has}
use Rattle.lsm_version.specs.Versions.{Levels}
use Rattle.lsm_picker.specs.Gathering.{is_small}
use Rattle.lsm_picker.specs.TablePlans.{TablePlan, tables_over}
use Rattle.lsm_table.specs.Registry.{Table, bytes_of}

-- One input, none at the next level, and at most ten target sizes of files that meet the hull two
-- levels down; no file is there where that level is above 6.
pub record IsMovable (v : Levels) (p : TablePlan) (target_size : ℕ) : Type 0 where
  pub one : length p.upper ≡ 1
  pub none : p.lower ≡ []
  pub below : bytes_of (tables_over v (suc (suc p.level)) p.low p.high) ≤ 10 * target_size

-- it moves a file that is not small (this project's rule)
pub record IsLargeMove (v : Levels) (p : TablePlan) (target_size : ℕ) : Type 0 where
  pub moves : IsMovable v p target_size
  pub large : (t : Table) → Has p.upper t → is_small target_size t ≡ false
