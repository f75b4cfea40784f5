use Rattle.lsm_directory.proofs.LogLaws.{logs_more, logs_none}
use Rattle.lsm_directory.specs.Logs.{line_in}
use Rattle.lsm_directory.proofs.folder.logs.push_logs.Goals as goal

pub loop-file-init : goal.loop-file-init
loop-file-init c = logs_none (line_in c.args.wording) c.args.log c.args.prev_log c.args.out.now.items

pub loop-file-preserved : goal.loop-file-preserved
loop-file-preserved c =
    logs_more (line_in c.args.wording) c.args.log c.args.prev_log c.args.files.now c.loop-file.file-index c.file-item.result _ _ _ c.loop-file-test.true c.file-item.is c.loop-file.invariant c.in_ok-push_unread.ensures
