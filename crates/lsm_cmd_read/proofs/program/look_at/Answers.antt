use Rattle.lsm_cmd_read.proofs.LookedLaws.{fails_at, looks_at}
use Rattle.lsm_cmd_read.proofs.program.look_at.Goals as goal

pub returns-clause-done : goal.returns-clause-done
returns-clause-done g c =
    looks_at g.C.FolderCalls g.C.Mark.Mark c.begin-done.result.0 c.args.line.now
    c.in_ok-shelf.beside c.in_ok-shelf.shelf c.begin-done.result.1 _ _ _ _
    c.in_ok-shelf.ensures.found
    c.begin-done.ensures.done c.begin-done.ensures.reads

pub returns-clause-refused : goal.returns-clause-refused
returns-clause-refused g c =
    fails_at g.C.FolderCalls g.C.Mark.Mark c.begin-done.result.0 c.args.line.now
    c.in_ok-shelf.beside c.in_ok-shelf.shelf c.begin-done.result.1 _ _
    c.in_ok-shelf.ensures.found
    c.begin-done.ensures.refused c.begin-done.ensures.reads
