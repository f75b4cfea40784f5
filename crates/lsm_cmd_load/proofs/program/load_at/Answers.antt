use Rattle.lsm_directory.proofs.CallerLemmas.{shelf_over}
use Rattle.lsm_opening.specs.Preparing.{IsPrepared}
use Rattle.lsm_cmd_load.proofs.RunLaws.{fails_to_load, loads_at}
use Rattle.lsm_cmd_load.proofs.program.load_at.Goals as goal

pub returns-clause-done : goal.returns-clause-done
returns-clause-done g c =
    loads_at g.C.FolderCalls c.load_into-done.result.0 c.args.path.now c.args.options (g.I.Read.remaining c.args.input) c.in_ok-prepared.prepared.start c.in_ok-prepared.prepared.logs.items
    c.over-shelf.result c.load_into-done.result.1 _ _
    (shelf_over g.C.FolderCalls c.args.path.now (IsPrepared c.args.options.ingest c.in_ok-prepared.prepared.start c.in_ok-prepared.prepared.logs.items) c.in_ok-folder.folder c.prepare.new.folder
    c.over-shelf.result c.in_ok-folder.ensures.place c.in_ok-folder.ensures.calls c.in_ok-prepared.ensures.prepared c.prepare.ensures.place c.over-shelf.ensures.folder
    c.over-shelf.ensures.fresh)
    c.load_into-done.ensures.done

pub returns-clause-refused : goal.returns-clause-refused
returns-clause-refused g c =
    fails_to_load g.C.FolderCalls g.C.Mark.Mark c.load_into-done.result.0 c.args.path.now c.args.options (g.I.Read.remaining c.args.input) c.in_ok-prepared.prepared.start
    c.in_ok-prepared.prepared.logs.items c.over-shelf.result c.load_into-done.result.1 _ _
    (shelf_over g.C.FolderCalls c.args.path.now (IsPrepared c.args.options.ingest c.in_ok-prepared.prepared.start c.in_ok-prepared.prepared.logs.items) c.in_ok-folder.folder c.prepare.new.folder
    c.over-shelf.result c.in_ok-folder.ensures.place c.in_ok-folder.ensures.calls c.in_ok-prepared.ensures.prepared c.prepare.ensures.place c.over-shelf.ensures.folder
    c.over-shelf.ensures.fresh)
    c.load_into-done.ensures.fault c.load_into-done.ensures.left
