use Rattle.lsm_version.proofs.Placing.{index_at_front, index_after}
use Rattle.lsm_version.proofs.ordered_level.index_in.Goals as goal
use Rattle.std.proofs.Common.{rules}

pub returns-else-stands_before-clause-before : goal.returns-else-stands_before-clause-before
returns-else-stands_before-clause-before g c =
    let at = index_after c.args.table.now c.args.level.now c.loop-index.index c.index-level-index.result c.requires.order c.loop-index-test.true c.loop-index.invariant.inside c.index-level-index.is (search rules) c.loop-index.invariant.behind in
    at.before

pub returns-else-stands_before-clause-behind : goal.returns-else-stands_before-clause-behind
returns-else-stands_before-clause-behind g c =
    let at = index_after c.args.table.now c.args.level.now c.loop-index.index c.index-level-index.result c.requires.order c.loop-index-test.true c.loop-index.invariant.inside c.index-level-index.is (search rules) c.loop-index.invariant.behind in
    at.behind

pub returns-after-loop-index-clause-before : goal.returns-after-loop-index-clause-before
returns-after-loop-index-clause-before g c =
    let at = index_at_front c.args.table.now c.args.level.now c.loop-index.index c.loop-index-test.false c.loop-index.invariant.behind in
    at.before

pub returns-after-loop-index-clause-behind : goal.returns-after-loop-index-clause-behind
returns-after-loop-index-clause-behind g c =
    let at = index_at_front c.args.table.now c.args.level.now c.loop-index.index c.loop-index-test.false c.loop-index.invariant.behind in
    at.behind
