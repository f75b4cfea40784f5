use Rattle.lsm_directory.specs.Beside.{LooksBeside}
use Rattle.lsm_directory.proofs.CallerLemmas.{shelf_over}
use Rattle.lsm_cmd_shell.proofs.RunLaws.{fails_to_read, reads_at}
use Rattle.lsm_cmd_shell.proofs.program.read_at.Goals as goal

pub returns-clause-done : goal.returns-clause-done
returns-clause-done g c =
    reads_at g.C.FolderCalls c.converse_to_read-done.result.0 c.args.path.now c.args.form
    c.args.bails (g.I.Read.remaining c.args.input) c.in_ok-beside.beside c.over-shelf.result
    c.converse_to_read-done.result.1 _ _
    (shelf_over g.C.FolderCalls c.args.path.now (LooksBeside c.in_ok-beside.beside)
    c.in_ok-folder.folder c.look_beside.new.folder c.over-shelf.result
    c.in_ok-folder.ensures.place c.in_ok-folder.ensures.calls c.in_ok-beside.ensures.told
    c.look_beside.ensures.place c.over-shelf.ensures.folder c.over-shelf.ensures.fresh)
    c.converse_to_read-done.ensures.done c.converse_to_read-done.ensures.reads

pub returns-clause-refused : goal.returns-clause-refused
returns-clause-refused g c =
    fails_to_read g.C.FolderCalls g.C.Mark.Mark c.converse_to_read-done.result.0
    c.args.path.now c.args.form c.args.bails (g.I.Read.remaining c.args.input)
    c.in_ok-beside.beside c.over-shelf.result c.converse_to_read-done.result.1 _ _
    (shelf_over g.C.FolderCalls c.args.path.now (LooksBeside c.in_ok-beside.beside)
    c.in_ok-folder.folder c.look_beside.new.folder c.over-shelf.result
    c.in_ok-folder.ensures.place c.in_ok-folder.ensures.calls c.in_ok-beside.ensures.told
    c.look_beside.ensures.place c.over-shelf.ensures.folder c.over-shelf.ensures.fresh)
    c.converse_to_read-done.ensures.fault c.converse_to_read-done.ensures.reads
