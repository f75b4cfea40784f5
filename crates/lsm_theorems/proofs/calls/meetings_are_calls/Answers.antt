use Rattle.std.proofs.Common.{refl}
use Rattle.lsm_theorems.proofs.CallSteps.{look_so}
use Rattle.lsm_theorems.proofs.calls.meetings_are_calls.Goals as goal

pub returns : goal.returns
returns g c = look_so g.S.Shelf.honest c.args.state.now _ c.meet.new.self c.meet.ensures.rest refl refl
