use Rattle.std.proofs.Common.{◌∙◌, ap}
use Rattle.lsm_iterators.specs.Heads.{key_in}
use Rattle.lsm_iterators.specs.Tree.{left_of}
use Rattle.lsm_iterators.proofs.TreeLaws.{led_by_keys}
use Rattle.lsm_iterators.proofs.tree.trees_judged.Goals as goal

pub returns-clause-led : goal.returns-clause-led
returns-clause-led g c =
    led_by_keys (left_of c.args.first.now) (left_of c.args.second.now) c.judged.result.0 _ _ c.judged.ensures.led (c.key.ensures.key ∙ ap key_in c.head.ensures.first) (c.key-2.ensures.key ∙ ap key_in c.head-2.ensures.first)
    (c.key.ensures.numbered ∙ ap key_in c.head.ensures.numbered) (c.key-2.ensures.numbered ∙ ap key_in c.head-2.ensures.numbered)
