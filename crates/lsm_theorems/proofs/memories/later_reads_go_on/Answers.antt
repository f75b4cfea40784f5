use Rattle.std.proofs.Common.{subst, sym}
use Rattle.lsm_state.specs.Held.{Held}
use Rattle.lsm_theorems.proofs.memories.later_reads_go_on.Goals as goal

pub invariant_of-deref_mut : goal.invariant_of-deref_mut
invariant_of-deref_mut g c = record { kept = subst (λ (h : Held). ∥ g.K.Invariant.keeps h ∥₁) (sym c.read_on.ensures.same) c.deref_mut.result.now.kept }
