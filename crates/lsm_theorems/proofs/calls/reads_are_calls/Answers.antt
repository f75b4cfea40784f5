use Rattle.std.specs.Option.{option_map}
use Rattle.lsm_theorems.proofs.CallSteps.{get_so}
use Rattle.lsm_theorems.proofs.calls.reads_are_calls.Goals as goal

pub returns : goal.returns
returns g c = get_so g.S.Shelf.honest c.get.result (λ v. option_map (λ b. b.items) v) c.args.state.now c.args.user.now c.args.at c.get.ensures.answer
