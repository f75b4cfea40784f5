use Rattle.lsm_picker.proofs.Planning.{lowest_done, lowest_more, lowest_start}
use Rattle.lsm_picker.proofs.table_range.lowest.Goals as goal

pub loop-table-init : goal.loop-table-init
loop-table-init g c = lowest_start c.args.tables.now c.args.from.now

pub loop-table-preserved : goal.loop-table-preserved
loop-table-preserved g c =
    lowest_more c.args.tables.now c.loop-table.table-index c.table-item.result c.args.from.now c.loop-table.low.now c.lesser-low.result.now c.low_of.result.now
    c.loop-table-test.true c.table-item.is c.low_of.ensures c.loop-table.invariant c.lesser-low.ensures

pub returns : goal.returns
returns g c = lowest_done c.args.tables.now c.loop-table.table-index c.args.from.now c.loop-table.low.now c.loop-table-test.false c.loop-table.invariant
