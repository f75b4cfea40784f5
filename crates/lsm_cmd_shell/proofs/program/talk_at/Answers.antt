use Rattle.lsm_directory.proofs.CallerLemmas.{shelf_over}
use Rattle.lsm_opening.specs.Preparing.{IsPrepared}
use Rattle.lsm_cmd_shell.proofs.RunLaws.{fails_to_talk, talks_at}
use Rattle.lsm_cmd_shell.proofs.program.talk_at.Goals as goal

pub returns-clause-done : goal.returns-clause-done
returns-clause-done g c =
    talks_at g.C.FolderCalls c.converse_with-done.result.0 c.args.path.now c.args.options c.args.workers c.args.bails (g.I.Read.remaining c.args.input) c.in-Ok.prepared.start c.in-Ok.prepared.logs.items
    c.over-shelf.result c.converse_with-done.result.1 _ _
    (shelf_over g.C.FolderCalls c.args.path.now (IsPrepared c.args.options c.in-Ok.prepared.start c.in-Ok.prepared.logs.items) c.in_ok-folder.folder c.prepare.new.folder
    c.over-shelf.result c.in_ok-folder.ensures.place c.in_ok-folder.ensures.calls c.in-Ok.ensures.prepared c.prepare.ensures.place c.over-shelf.ensures.folder
    c.over-shelf.ensures.fresh)
    c.converse_with-done.ensures.done

pub returns-clause-refused : goal.returns-clause-refused
returns-clause-refused g c =
    fails_to_talk g.C.FolderCalls g.C.Mark.Mark c.converse_with-done.result.0 c.args.path.now c.args.options c.args.workers c.args.bails (g.I.Read.remaining c.args.input) c.in-Ok.prepared.start
    c.in-Ok.prepared.logs.items c.over-shelf.result c.converse_with-done.result.1 _ _
    (shelf_over g.C.FolderCalls c.args.path.now (IsPrepared c.args.options c.in-Ok.prepared.start c.in-Ok.prepared.logs.items) c.in_ok-folder.folder c.prepare.new.folder
    c.over-shelf.result c.in_ok-folder.ensures.place c.in_ok-folder.ensures.calls c.in-Ok.ensures.prepared c.prepare.ensures.place c.over-shelf.ensures.folder
    c.over-shelf.ensures.fresh)
    c.converse_with-done.ensures.fault
