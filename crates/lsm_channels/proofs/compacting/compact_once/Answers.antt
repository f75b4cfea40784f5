use Rattle.std.proofs.lemmas.Result.{err_from_is_err_and}
use Rattle.lsm_store.specs.declared.picks.Picks.TheVariants.{Choice}
use Rattle.lsm_channels.proofs.WorkLaws.{stops_first, stops_looking}
use Rattle.lsm_channels.proofs.compacting.compact_once.Goals as goal

pub returns-in-Err-clause-stopped : goal.returns-in-Err-clause-stopped
returns-in-Err-clause-stopped g c = stops_looking g.S.Shelf.honest (g.S.Shelf.refuses g.N.Naming.place) g.K.Invariant.keeps Choice c.in-Err.fault _ _ c.in_ok-work.ensures.worked c.in-Err.ensures.refused

pub returns-in_err-work-clause-stopped : goal.returns-in_err-work-clause-stopped
returns-in_err-work-clause-stopped g c =
    let p = err_from_is_err_and c.from_residual.result c.from_residual.ensures.1 in
    rw (p.1, p.2) (stops_first g.S.Shelf.honest (g.S.Shelf.refuses g.N.Naming.place) g.K.Invariant.keeps Choice _ _ _ c.in_err-work.ensures.stopped)
