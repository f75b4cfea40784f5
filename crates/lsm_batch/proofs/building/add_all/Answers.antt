use Rattle.std.proofs.Common.{◌+◌}
use Rattle.lsm_batch.specs.Batches.{entries_from, written_at}
use Rattle.std.proofs.Common.{◌++◌, drop}
use Rattle.lsm_batch.proofs.BatchLaws.{ascends_on, entries_at}
use Rattle.lsm_batch.proofs.building.add_all.Goals as goal

pub add-requires-clause-ascends : goal.add-requires-clause-ascends
add-requires-clause-ascends c =
    let ws = c.args.writes.now in
    let i = c.loop-i.i in
    let w = c.index-writes-i.result in
    ascends_on (c.args.table.now.entries ++ entries_from c.args.first ws) c.loop-i.table.entries (written_at (c.args.first + i) w) (entries_from (c.args.first + i) (drop i ws)) (entries_from (c.args.first + (i + 1)) (drop (i + 1) ws))
    c.requires.ascends c.loop-i.invariant.entries (entries_at ws c.args.first i w c.loop-i-test.true c.index-writes-i.is)
