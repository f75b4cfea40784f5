use Rattle.lsm_opening.specs.Tidying.{IsHeldTidy}
use Rattle.lsm_cmd_compact.proofs.RunLaws.{compacts_at, uncompacted}
use Rattle.lsm_directory.proofs.CallerLemmas.{shelf_at}
use Rattle.lsm_cmd_compact.proofs.compacting.program.compact_at.Goals as goal

pub returns-clause-done : goal.returns-clause-done
returns-clause-done g c =
    compacts_at g.C.FolderCalls c.compact_to-done.result.0 c.args.line.now c.in_ok-shelf.shelf c.compact_to-done.result.1 _ _
    (shelf_at g.C.FolderCalls c.args.line.now.path.now IsHeldTidy c.in_ok-folder.folder c.in_ok-shelf.shelf c.in_ok-folder.ensures.place c.in_ok-folder.ensures.calls
    c.in_ok-shelf.ensures.held c.in_ok-shelf.ensures.fresh)
    c.compact_to-done.ensures.done

pub returns-clause-refused : goal.returns-clause-refused
returns-clause-refused g c =
    uncompacted g.C.FolderCalls g.C.Mark.Mark c.compact_to-done.result.0 c.args.line.now c.in_ok-shelf.shelf c.compact_to-done.result.1 _ _
    (shelf_at g.C.FolderCalls c.args.line.now.path.now IsHeldTidy c.in_ok-folder.folder c.in_ok-shelf.shelf c.in_ok-folder.ensures.place c.in_ok-folder.ensures.calls
    c.in_ok-shelf.ensures.held c.in_ok-shelf.ensures.fresh)
    c.compact_to-done.ensures.fault c.compact_to-done.ensures.left
