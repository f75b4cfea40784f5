use Rattle.std.proofs.Common.{inr}
use Rattle.std.proofs.lemmas.Result.{err_from_is_err_and}
use Rattle.lsm_cmd_import.proofs.program.open_folders.Goals as goal

pub returns-in_err-target-clause-refused : goal.returns-in_err-target-clause-refused
returns-in_err-target-clause-refused g c =
    let p = err_from_is_err_and c.from_residual-in_err-target.result c.from_residual-in_err-target.ensures.1 in
    rw (p.1, p.2) (inr
    (inr (
      c.in_ok-folder.files.items,
      c.in_ok-folder.folder,
      c.in_ok-folder.ensures.opened,
      c.in_err-target.ensures.refused,
    )))
