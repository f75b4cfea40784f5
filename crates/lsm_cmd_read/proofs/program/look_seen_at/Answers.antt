use Rattle.std.proofs.Common.{inl, refl}
use Rattle.std.proofs.lemmas.Result.{err_from_is_err_and}
use Rattle.lsm_directory.proofs.CallerLemmas.{keeps_same}
use Rattle.lsm_cmd_read.proofs.SeenLaws.{fails_at, sees_at}
use Rattle.lsm_cmd_read.proofs.program.look_seen_at.Goals as goal

pub returns-in_err-folder-clause-refused : goal.returns-in_err-folder-clause-refused
returns-in_err-folder-clause-refused g c =
    let p = err_from_is_err_and c.from_residual.result c.from_residual.ensures.1 in
    rw (p.1, p.2)
    (inl (
      (c.in_err-folder.field-0.0, refl, c.in_err-folder.ensures.fault),
      keeps_same (g.O.Write.contents c.args.out.now),
    ))

pub returns-clause-done : goal.returns-clause-done
returns-clause-done g c =
    sees_at g.C.FolderCalls g.C.Mark.Mark c.see-done.result.0 c.args.line.now
    c.in_ok-folder.beside c.in_ok-folder.folder c.see-done.new.folder c.in_ok-folder.shelf
    c.see-done.result.1 _ _ _ _ c.in_ok-folder.ensures.found
    (rw c.sight_of.ensures at c.see-done.ensures.done) c.see-done.ensures.looks
    c.see-done.ensures.reads

pub returns-clause-refused : goal.returns-clause-refused
returns-clause-refused g c =
    fails_at g.C.FolderCalls g.C.Mark.Mark c.see-done.result.0 c.args.line.now
    c.in_ok-folder.beside c.in_ok-folder.folder c.see-done.new.folder c.in_ok-folder.shelf
    c.see-done.result.1 _ _ c.in_ok-folder.ensures.found
    (rw c.sight_of.ensures at c.see-done.ensures.refused) c.see-done.ensures.looks
    c.see-done.ensures.reads
