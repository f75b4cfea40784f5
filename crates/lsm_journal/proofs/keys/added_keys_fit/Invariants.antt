use Rattle.std.proofs.Common.{ℕ, ◌≤◌, ◌^◌, length, take}
use Rattle.lsm_codec.specs.Lists.{Has}
use Rattle.lsm_table.specs.Registry.{Table}
use Rattle.lsm_journal.proofs.keys.added_keys_fit.Given as goal

abbrev pub invariant-loop-one : goal.invariant-loop-one
invariant-loop-one g l = (n : ℕ) (t : Table) → Has (take l.one-index l.added) (n, t) → length t.image ≤ 2 ^ 30
