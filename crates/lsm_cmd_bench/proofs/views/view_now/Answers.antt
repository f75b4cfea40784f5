use Rattle.std.proofs.Math.Logic.{∥∥₁_map}
use Rattle.lsm_bulk_load.proofs.CallerLemmas.{kept_learning}
use Rattle.lsm_cmd_bench.proofs.views.view_now.Goals as goal

pub invariant_of-deref_mut : goal.invariant_of-deref_mut
invariant_of-deref_mut g c = record {
  kept = ∥∥₁_map c.deref_mut.result.now.kept (kept_learning g.O.Origin.keeps g.O.Origin.found c.deref_mut.result.now.state c.view_of.new.state c.requires.readers c.view_of.ensures);
}
