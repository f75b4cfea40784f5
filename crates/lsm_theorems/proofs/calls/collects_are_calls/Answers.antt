use Rattle.std.proofs.Common.{refl}
use Rattle.lsm_theorems.proofs.CallSteps.{slots_so}
use Rattle.lsm_theorems.proofs.calls.collects_are_calls.Goals as goal

pub returns : goal.returns
returns g c = slots_so g.S.Shelf.honest c.args.state.now _ c.collect.new.self c.collect.ensures.event c.collect.ensures.rest refl
