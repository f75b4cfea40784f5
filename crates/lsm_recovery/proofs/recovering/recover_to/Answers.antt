use Rattle.lsm_recovery.proofs.OnFolder.{done_on, refused_on}
use Rattle.lsm_recovery.proofs.recovering.recover_to.Goals as goal

pub returns-clause-done : goal.returns-clause-done
returns-clause-done g c =
    done_on g.C.FolderCalls g.C.Mark.Mark c.args.to_first_fault c.args.files.now
    c.args.folder.now c.recover-brought.new.folder c.in-Ok.fork c.over-shelf.result
    c.recover-brought.result.1 c.over-shelf.ensures.fresh c.in-Ok.ensures.fork.1
    c.recover-brought.result.0 c.recover-brought.ensures.done

pub returns-clause-refused : goal.returns-clause-refused
returns-clause-refused g c =
    refused_on g.C.FolderCalls g.C.Mark.Mark c.args.to_first_fault c.args.files.now
    c.args.folder.now c.recover-brought.new.folder c.in-Ok.fork c.over-shelf.result
    c.recover-brought.result.1 c.over-shelf.ensures.fresh c.in-Ok.ensures.fork.1
    c.recover-brought.result.0 c.recover-brought.ensures.refused
