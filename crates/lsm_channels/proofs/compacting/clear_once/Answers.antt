use Rattle.std.proofs.lemmas.Result.{err_from_is_err_and}
use Rattle.lsm_channels.proofs.WorkLaws.{stops_first}
use Rattle.lsm_channels.proofs.compacting.clear_once.Goals as goal

pub returns-in_err-work-clause-stopped : goal.returns-in_err-work-clause-stopped
returns-in_err-work-clause-stopped g c =
    let p = err_from_is_err_and c.from_residual.result c.from_residual.ensures.1 in
    rw (p.1, p.2) (stops_first g.S.Shelf.honest (g.S.Shelf.refuses g.N.Naming.place) g.K.Invariant.keeps c.args.picks.now _ _ _ c.in_err-work.ensures.stopped)
