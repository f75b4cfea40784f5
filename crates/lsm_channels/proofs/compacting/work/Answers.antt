use Rattle.std.proofs.Common.{inl, inr, refl}
use Rattle.lsm_channels.proofs.KeepingLaws.{quiet_compaction}
use Rattle.lsm_channels.proofs.WireLaws.{all_first}
use Rattle.lsm_channels.proofs.WorkLaws.{fault_met, no_fork, one_worked, worked_by}
use Rattle.lsm_store.specs.Workers.{IsWorkersEnd}
use Rattle.lsm_channels.proofs.compacting.work.Goals as goal

pub compact-requires-clause-kept : goal.compact-requires-clause-kept
compact-requires-clause-kept g c κs within = quiet_compaction g.S.Shelf.honest g.K.Invariant.keeps c.requires.quiet

pub returns-in-Err-clause-stopped : goal.returns-in-Err-clause-stopped
returns-in-Err-clause-stopped g c = no_fork g.S.Shelf.honest (g.S.Shelf.refuses g.N.Naming.place) g.K.Invariant.keeps c.args.picks.now _ _ c.in-Err.fault c.in-Err.ensures.cause c.in-Err.ensures.err

pub returns-in-Err-compact-clause-stopped : goal.returns-in-Err-compact-clause-stopped
returns-in-Err-compact-clause-stopped g c = inr (inr (inl (refl, c.in-Ok.ensures.ok)))

pub returns-in-Some-clause-stopped : goal.returns-in-Some-clause-stopped
returns-in-Some-clause-stopped g c =
    inl (
      c.end_of.result,
      c.in-Some.is,
      worked_by g.S.Shelf.honest (g.S.Shelf.refuses g.N.Naming.place) g.K.Invariant.keeps
          c.args.picks.now _ _ g.N.Naming.place _ _ c.end_of.result c.in-Ok.ensures.ok
          c.in-Ok.ensures.new c.end_of.ensures
          c.in-Ok-compact.ensures.ended,
    )

pub returns-in-Some-clause-refused : goal.returns-in-Some-clause-refused
returns-in-Some-clause-refused g c =
    fault_met g.S.Shelf.honest c.end_of.result c.in-Some.fault
    (all_first (IsWorkersEnd g.S.Shelf.honest) _ _ _ c.end_of.ensures
    c.in-Ok-compact.ensures.ends) c.in-Some.is

pub returns-in-None-clause-worked : goal.returns-in-None-clause-worked
returns-in-None-clause-worked g c =
    one_worked g.S.Shelf.honest (g.S.Shelf.refuses g.N.Naming.place) g.K.Invariant.keeps c.args.picks.now _ _ c.end_of.result c.in-None.is
    (worked_by g.S.Shelf.honest (g.S.Shelf.refuses g.N.Naming.place) g.K.Invariant.keeps
    c.args.picks.now _ _ g.N.Naming.place _ _ c.end_of.result c.in-Ok.ensures.ok
    c.in-Ok.ensures.new c.end_of.ensures
    c.in-Ok-compact.ensures.ended)
