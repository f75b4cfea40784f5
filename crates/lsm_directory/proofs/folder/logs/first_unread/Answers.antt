use Rattle.lsm_directory.proofs.LogLaws.{first_here, none_more}
use Rattle.lsm_directory.proofs.folder.logs.first_unread.Goals as goal

pub returns-in-Some : goal.returns-in-Some
returns-in-Some c =
    first_here c.args.log c.args.prev_log c.args.files.now c.loop-file.file-index c.in-Some.number c.file-item.result c.loop-file-test.true c.file-item.is c.loop-file.invariant
    c.in-Some.ensures

pub loop-file-preserved : goal.loop-file-preserved
loop-file-preserved c =
    none_more c.args.log c.args.prev_log c.args.files.now c.loop-file.file-index c.file-item.result c.loop-file-test.true c.file-item.is c.loop-file.invariant c.in_default.ensures
