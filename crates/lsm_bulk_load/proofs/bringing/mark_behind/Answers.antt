use Rattle.std.proofs.Common.{subst, sym}
use Rattle.lsm_state.specs.Held.{Held}
use Rattle.lsm_bulk_load.specs.Keeping.{IsKeptSince}
use Rattle.lsm_bulk_load.proofs.MarkLaws.{even_out}
use Rattle.lsm_bulk_load.proofs.bringing.mark_behind.Goals as goal

pub behind-requires-after_bounds : goal.behind-requires-after_bounds
behind-requires-after_bounds g c κs within = even_out g.O.Origin.keeps g.O.Origin.found c.deref_mut.result.now.state c.deref_mut.result.now.kept

pub invariant_of-deref_mut : goal.invariant_of-deref_mut
invariant_of-deref_mut g c = record {
  kept = subst (λ (h : Held). ∥ IsKeptSince g.O.Origin.keeps g.O.Origin.found h ∥₁) (sym c.behind.ensures.same) c.deref_mut.result.now.kept;
}
