use Rattle.std.proofs.Common.{refl}
use Rattle.lsm_theorems.proofs.CallSteps.{slots_so}
use Rattle.lsm_theorems.proofs.calls.pins_are_calls.Goals as goal

pub returns : goal.returns
returns g c = slots_so g.S.Shelf.honest c.args.state.now _ c.pin.new.self c.pin.ensures.event c.pin.ensures.rest refl
