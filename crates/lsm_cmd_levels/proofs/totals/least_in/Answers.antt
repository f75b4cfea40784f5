use Rattle.std.proofs.Common.{List, subst}
use Rattle.lsm_codec.specs.Lists.{Has}
use Rattle.lsm_manifest.specs.declared.file_meta.FileMeta.{FileMeta}
use Rattle.lsm_cmd_levels.specs.Totals.{IsLeast}
use Rattle.lsm_cmd_levels.proofs.TotalLaws.{least_deeper}
use Rattle.lsm_cmd_levels.proofs.totals.least_in.Goals as goal

pub loop-files-preserved : goal.loop-files-preserved
loop-files-preserved c =
    least_deeper c.args.levels.now c.loop-files.files-index c.files-item.result c.loop-files.least c.least_of.result c.lesser-least.result c.loop-files-test.true c.files-item.is
    (subst (λ (fs : List FileMeta). IsLeast (Has fs) c.least_of.result) c.as_slice.ensures c.least_of.ensures) c.lesser-least.ensures c.loop-files.invariant
