use Rattle.lsm_cmd_levels.proofs.TotalLaws.{sums_all, sums_more}
use Rattle.lsm_cmd_levels.proofs.folder_sums.FolderSums.of.Goals as goal

pub loop-file-preserved : goal.loop-file-preserved
loop-file-preserved c =
    sums_more c.args.files.now c.loop-file.file-index c.file-item.result c.kind_of.result c.loop-file.sums c.in_ok-sums.sums c.loop-file-test.true c.file-item.is c.kind_of.ensures
    c.in_ok-sums.ensures.tables c.in_ok-sums.ensures.manifests c.in_ok-sums.ensures.others c.in_ok-sums.ensures.bytes c.loop-file.invariant

pub returns : goal.returns
returns c = sums_all c.args.files.now c.loop-file.file-index c.loop-file.sums c.loop-file-test.false c.loop-file.invariant
