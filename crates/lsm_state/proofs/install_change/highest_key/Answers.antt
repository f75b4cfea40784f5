use Rattle.lsm_state.proofs.LargestKeys.{highest_done, highest_more, highest_start}
use Rattle.lsm_state.proofs.install_change.highest_key.Goals as goal

pub loop-table-init : goal.loop-table-init
loop-table-init g c = highest_start c.args.tables.now c.args.key.now

pub loop-table-preserved : goal.loop-table-preserved
loop-table-preserved g c =
    highest_more c.args.tables.now c.loop-table.table-index c.table-item.result c.args.key.now c.loop-table.highest.now c.greater_key-highest.result.now c.key_of.result.now
    c.loop-table-test.true c.table-item.is c.key_of.ensures c.loop-table.invariant c.greater_key-highest.ensures

pub returns : goal.returns
returns g c = highest_done c.args.tables.now c.loop-table.table-index c.args.key.now c.loop-table.highest.now c.loop-table-test.false c.loop-table.invariant
