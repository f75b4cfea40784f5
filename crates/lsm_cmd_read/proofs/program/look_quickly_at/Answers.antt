use Rattle.lsm_cmd_read.proofs.QuickLaws.{quickly_at, quickly_fails_at}
use Rattle.lsm_cmd_read.proofs.program.look_quickly_at.Goals as goal

pub returns-clause-done : goal.returns-clause-done
returns-clause-done g c =
    quickly_at g.C.FolderCalls g.C.Mark.Mark g.C.FindingCalls.holds c.begin_quickly-done.result.0
    c.args.line.now c.in_ok-shelf.beside c.in_ok-shelf.shelf c.begin_quickly-done.result.1 _ _ _
    _ c.requires.quick c.in_ok-shelf.ensures.found
    c.begin_quickly-done.ensures.done c.begin_quickly-done.ensures.reads

pub returns-clause-refused : goal.returns-clause-refused
returns-clause-refused g c =
    quickly_fails_at g.C.FolderCalls g.C.Mark.Mark g.C.FindingCalls.holds
    c.begin_quickly-done.result.0 c.args.line.now c.in_ok-shelf.beside c.in_ok-shelf.shelf
    c.begin_quickly-done.result.1 _ _ c.requires.quick c.in_ok-shelf.ensures.found
    c.begin_quickly-done.ensures.refused c.begin_quickly-done.ensures.reads
