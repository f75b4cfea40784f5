use Rattle.std.proofs.lemmas.Result.{err_from_is_err_and}
use Rattle.lsm_journal.proofs.AfterManifest.{after_once}
use Rattle.lsm_journal.proofs.found.Found.read.Goals as goal

pub returns-in_err-recovered-clause-refused : goal.returns-in_err-recovered-clause-refused
returns-in_err-recovered-clause-refused g c =
    let p = err_from_is_err_and c.from_residual.result c.from_residual.ensures.1 in
    rw (p.1, p.2) c.in_err-recovered.ensures.refused

pub returns-clause-found : goal.returns-clause-found
returns-clause-found g c = rw c.in_ok-recovered.ensures.limit at (c.of_manifest.ensures.found c.args.shelf.now c.in_ok-recovered.ensures.found)

pub returns-clause-refused : goal.returns-clause-refused
returns-clause-refused g c = c.of_manifest.ensures.refused _ c.in_ok-recovered.ensures.found

pub returns-clause-counts_err : goal.returns-clause-counts_err
returns-clause-counts_err g c = after_once c.of_manifest.result _ _ c.of_manifest.ensures.later
