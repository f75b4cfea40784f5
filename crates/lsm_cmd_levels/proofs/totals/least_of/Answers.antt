use Rattle.lsm_cmd_levels.proofs.TotalLaws.{least_all, least_more}
use Rattle.lsm_cmd_levels.proofs.totals.least_of.Goals as goal

pub loop-file-preserved : goal.loop-file-preserved
loop-file-preserved c =
    least_more c.args.files.now c.loop-file.file-index c.file-item.result c.loop-file.least c.lesser-least.result c.loop-file-test.true c.file-item.is c.lesser-least.ensures
    c.loop-file.invariant

pub returns : goal.returns
returns c = least_all c.args.files.now c.loop-file.file-index c.loop-file.least c.loop-file-test.false c.loop-file.invariant
