use Rattle.std.proofs.Common.{ℕ, ◌<◌}
use Rattle.lsm_codec.specs.Keys.{UserLe}
use Rattle.lsm_codec.specs.Lists.{Has}
use Rattle.lsm_table.specs.Registry.{Table}
use Rattle.lsm_version.specs.Versions.{level_in, user_of}
use Rattle.lsm_picker.proofs.manual.last_key.Given as goal

abbrev pub invariant-loop-level : goal.invariant-loop-level
invariant-loop-level g l =
    (n : ℕ) → n < l.level → (t : Table) → Has (level_in l.version.tables n) t → UserLe (user_of t.largest) l.last
