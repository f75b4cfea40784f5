use Rattle.std.proofs.Common.{subst}
use Rattle.lsm_store.specs.Readers.{IsPinning}
use Rattle.lsm_store.proofs.view.View.id.Goals as goal

pub returns-clause-pinning : goal.returns-clause-pinning
returns-clause-pinning g c = subst IsPinning c.self.view_is (c.self.inside.slot, c.self.invariant.1)
