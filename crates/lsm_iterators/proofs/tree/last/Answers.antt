use Rattle.std.proofs.Common.{◌∙◌, ap}
use Rattle.lsm_iterators.specs.Tree.{all_left}
use Rattle.lsm_iterators.proofs.TreeLaws.{all_left-append}
use Rattle.lsm_iterators.proofs.tree.last.Goals as goal

pub returns-clause-left : goal.returns-clause-left
returns-clause-left g c = ap all_left c.in-Some.ensures.items ∙ all_left-append c.pop.new.self.items c.in-Some.source
