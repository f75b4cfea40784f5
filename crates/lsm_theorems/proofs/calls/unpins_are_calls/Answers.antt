use Rattle.std.proofs.Common.{refl}
use Rattle.lsm_theorems.proofs.CallSteps.{slots_so}
use Rattle.lsm_theorems.proofs.calls.unpins_are_calls.Goals as goal

pub returns : goal.returns
returns g c = slots_so g.S.Shelf.honest c.args.state.now _ c.unpin.new.self c.unpin.ensures.event c.unpin.ensures.rest refl
