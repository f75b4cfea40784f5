use Rattle.lsm_iterators.proofs.RunLaws.{all_rest}
use Rattle.lsm_iterators.proofs.later.Later.pass.Goals as goal

pub invariant_of-self : goal.invariant_of-self
invariant_of-self g c = all_rest (g.S.Shelf.is_of g.N.Naming.place) c.self.inside.receipts.items c.pop_front-passed.new.self.items c.pop_front-passed.ensures.rest c.self.invariant
