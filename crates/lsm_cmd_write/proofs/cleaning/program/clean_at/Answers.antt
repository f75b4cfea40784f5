use Rattle.std.proofs.Common.{inl, refl}
use Rattle.std.proofs.lemmas.Result.{err_from_is_err_and}
use Rattle.lsm_directory.proofs.CallerLemmas.{keeps_same}
use Rattle.lsm_cmd_write.proofs.RunLaws.{cleans_at, fails_to_clean}
use Rattle.lsm_cmd_write.proofs.cleaning.program.clean_at.Goals as goal

pub returns-clause-done : goal.returns-clause-done
returns-clause-done g c =
    cleans_at g.C.FolderCalls c.clean_folder.result c.args.path.now c.args.options c.in_ok-folder.folder c.clean_folder.new.folder _ _ c.in_ok-folder.ensures.place
    c.in_ok-folder.ensures.calls c.clean_folder.ensures.place c.clean_folder.ensures.cleaned

pub returns-clause-refused : goal.returns-clause-refused
returns-clause-refused g c =
    fails_to_clean g.C.FolderCalls g.C.Mark.Mark c.clean_folder.result c.args.path.now c.args.options c.in_ok-folder.folder c.clean_folder.new.folder _ _
    c.in_ok-folder.ensures.place c.in_ok-folder.ensures.calls c.clean_folder.ensures.place c.clean_folder.ensures.refused

pub returns-in_err-folder-clause-refused : goal.returns-in_err-folder-clause-refused
returns-in_err-folder-clause-refused g c =
    let p = err_from_is_err_and c.from_residual.result c.from_residual.ensures.1 in
    rw (p.1, p.2) (inl (inl (c.in_err-folder.field-0.0, refl, c.in_err-folder.ensures.fault), keeps_same _))
