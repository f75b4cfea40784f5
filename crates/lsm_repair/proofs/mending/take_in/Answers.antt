use Rattle.std.proofs.Common.{inr}
use Rattle.std.proofs.lemmas.Result.{err_from_is_err_and}
use Rattle.lsm_repair.proofs.MendLaws.{listed_same, unlisted_same}
use Rattle.lsm_repair.proofs.mending.take_in.Goals as goal

pub returns-clause-same : goal.returns-clause-same
returns-clause-same g c =
    listed_same c.in-Ok.numbers.items c.args.shelf.now c.list.new.self c.read_tables.new.shelf
    c.in-Ok.ensures.ok c.read_tables.ensures.told

pub returns-in_err-found-clause-same : goal.returns-in_err-found-clause-same
returns-in_err-found-clause-same g c =
    listed_same c.in-Ok.numbers.items c.args.shelf.now c.list.new.self c.read_tables.new.shelf
    c.in-Ok.ensures.ok c.read_tables.ensures.told

pub returns-in-Err-clause-same : goal.returns-in-Err-clause-same
returns-in-Err-clause-same g c =
    unlisted_same c.args.shelf.now c.list.new.self c.in-Err.ensures.err

pub returns-in_err-found-clause-refused : goal.returns-in_err-found-clause-refused
returns-in_err-found-clause-refused g c =
    let p = err_from_is_err_and c.from_residual.result c.from_residual.ensures.1 in
    rw (p.1, p.2) (inr (inr (c.deref.result.now, c.in_err-found.ensures.refused)))
