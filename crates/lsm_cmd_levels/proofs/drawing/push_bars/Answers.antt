use Rattle.lsm_cmd_levels.proofs.DrawingLaws.{bars_all, bars_more}
use Rattle.lsm_cmd_levels.proofs.drawing.push_bars.Goals as goal

pub loop-index-preserved : goal.loop-index-preserved
loop-index-preserved c =
    bars_more c.args.sheet.form c.args.sheet.shape.now c.args.sheet.due c.args.level c.args.files.now c.loop-index.index c.index-files-index.result _ _ _ c.loop-index-test.true
    c.index-files-index.is c.loop-index.invariant c.in_ok-push_bar.ensures

pub returns : goal.returns
returns c =
    bars_all c.args.sheet.form c.args.sheet.shape.now c.args.sheet.due c.args.level c.args.files.now c.loop-index.index c.loop-index.out.items _ c.loop-index-test.false
    c.loop-index.invariant
