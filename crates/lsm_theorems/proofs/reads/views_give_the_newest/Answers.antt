use Rattle.std.specs.Option.{option_map}
use Rattle.lsm_theorems.proofs.ReadLaws.{view_so}
use Rattle.lsm_theorems.proofs.reads.views_give_the_newest.Goals as goal

pub returns : goal.returns
returns g c = λ fair promised. view_so c.get.result (λ v. option_map (λ b. b.items) v) c.args.view.now.history c.args.user.now c.args.seq (c.get.ensures.history fair promised)
