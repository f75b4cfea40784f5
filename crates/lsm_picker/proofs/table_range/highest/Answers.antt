use Rattle.lsm_picker.proofs.Planning.{highest_done, highest_more, highest_start}
use Rattle.lsm_picker.proofs.table_range.highest.Goals as goal

pub loop-table-init : goal.loop-table-init
loop-table-init g c = highest_start c.args.tables.now c.args.to.now

pub loop-table-preserved : goal.loop-table-preserved
loop-table-preserved g c =
    highest_more c.args.tables.now c.loop-table.table-index c.table-item.result c.args.to.now c.loop-table.high.now c.greater-high.result.now c.high_of.result.now
    c.loop-table-test.true c.table-item.is c.high_of.ensures c.loop-table.invariant c.greater-high.ensures

pub returns : goal.returns
returns g c = highest_done c.args.tables.now c.loop-table.table-index c.args.to.now c.loop-table.high.now c.loop-table-test.false c.loop-table.invariant
