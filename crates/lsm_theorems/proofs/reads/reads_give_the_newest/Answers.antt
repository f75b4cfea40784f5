use Rattle.std.specs.Option.{option_map}
use Rattle.lsm_state.specs.Reading.{IsSequence}
use Rattle.lsm_theorems.proofs.ReadLaws.{read_so}
use Rattle.lsm_theorems.proofs.reads.reads_give_the_newest.Goals as goal

pub returns : goal.returns
returns g c = read_so g.S.Shelf.honest c.get.result (λ v. option_map (λ b. b.items) v) (IsSequence c.args.state.now c.args.at) c.args.state.now.history c.args.user.now c.get.ensures.history
