use Rattle.std.proofs.Common.{◌≡◌, List}
use Rattle.std.specs.Prelude.{Result, Ok, Err, IfOk}
use Rattle.lsm_iterators.specs.Runs.{Left}
use Rattle.lsm_iterators.specs.Tree.{all_left, both, left_of}
use Rattle.lsm_iterators.specs.declared.tree.Tree.{Tree}
use Rattle.lsm_iterators.proofs.TreeLaws.{joined_left}
use Rattle.lsm_iterators.proofs.tree.+of_last.Goals as goal

joined_ok : {E : Type 0} (old mid new : List Left) (first second : Left) (r : Result (Tree Left) E)
    → all_left old ≡ both (all_left mid) second → all_left mid ≡ both (all_left new) first
    → IfOk r (λ t. left_of t ≡ both first second) → IfOk r (λ t. all_left old ≡ both (all_left new) (left_of t))
joined_ok old mid new first second (Ok t) e f h = joined_left old mid new first second (left_of t) e f h
joined_ok old mid new first second (Err x) e f h = tt

pub returns-in_ok-first-clause-left : goal.returns-in_ok-first-clause-left
returns-in_ok-first-clause-left g t c =
    joined_ok c.args.sources.now.items c.of_last.new.sources.items c.of_last-then-count-gt1.new.sources.items (left_of c.in_ok-first.first) (left_of c.in_ok-second.second)
    c.fork.result c.in_ok-second.ensures.left c.in_ok-first.ensures.left c.fork.ensures.left
