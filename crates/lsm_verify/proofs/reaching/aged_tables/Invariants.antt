use Rattle.std.proofs.Common.{ℕ, take}
use Rattle.lsm_verify.specs.Settled.{AreAged}
use Rattle.lsm_version.specs.Versions.{files_of}
use Rattle.lsm_verify.proofs.reaching.aged_tables.Given as goal

abbrev pub invariant-loop-index : goal.invariant-loop-index
invariant-loop-index g l = (level : ℕ) → AreAged (files_of level (take l.index l.tables)) l.aged.items
