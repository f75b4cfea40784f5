use Rattle.std.proofs.Common.{◌∙◌}
use Rattle.lsm_version.proofs.Pushing.{one_number_more}
use Rattle.lsm_version.proofs.version.push_level.Goals as goal

pub loop-table-preserved : goal.loop-table-preserved
loop-table-preserved g c =
    one_number_more c.args.level.now c.loop-table.table-index c.number.result c.table-item.result c.args.numbers.now.items c.loop-table.numbers.items c.push.new.self.items c.loop-table-test.true
    c.table-item.is (c.number.ensures ∙ c.record.ensures.number) c.in_ok-push.ensures.items c.loop-table.invariant
