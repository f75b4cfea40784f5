use Rattle.std.proofs.Common.{ℕ, refl, inl, inr}
use Rattle.lsm_theorems.proofs.ReadLaws.{has_map}
use Rattle.lsm_theorems.proofs.reads.such_reads_are_promised.Goals as goal

pub returns-clause-last : goal.returns-clause-last
returns-clause-last c r = inl refl

pub returns-clause-snapshots : goal.returns-clause-snapshots
returns-clause-snapshots c h r id seq m = inr (has_map (λ (p : ℕ × ℕ). p.1) h.snapshots.taken (id, seq) m)
