use Rattle.std.proofs.Common.{[], refl}
use Rattle.std.proofs.lemmas.Result.{err_from_is_err_and}
use Rattle.lsm_store.specs.declared.picks.Picks.TheVariants.{Choice}
use Rattle.lsm_channels.proofs.KnownLaws.{compacted_since, later_then}
use Rattle.lsm_channels.proofs.WorkLaws.{stops_after, works_more, works_none}
use Rattle.lsm_channels.proofs.compacting.compact.Goals as goal

pub tries-init : goal.tries-init
tries-init g c = record { known = ([], refl); worked = works_none g.S.Shelf.honest (g.S.Shelf.refuses g.N.Naming.place) g.K.Invariant.keeps Choice _; kept = λ known. known }

pub tries-preserved : goal.tries-preserved
tries-preserved g c = record {
  known = later_then c.args.memory.now c.tries.memory c.compact_once.new.memory c.tries.invariant.known c.compact_once.ensures.known;
  worked = works_more g.S.Shelf.honest (g.S.Shelf.refuses g.N.Naming.place) g.K.Invariant.keeps Choice _ _ _ c.tries.invariant.worked c.in_ok-is_settled.ensures.worked;
  kept = λ known. c.compact_once.ensures.kept (c.tries.invariant.kept known);
}

pub returns-then-is_settled-clause-known : goal.returns-then-is_settled-clause-known
returns-then-is_settled-clause-known g c = later_then c.args.memory.now c.tries.memory c.compact_once.new.memory c.tries.invariant.known c.compact_once.ensures.known

pub returns-then-is_settled-clause-worked : goal.returns-then-is_settled-clause-worked
returns-then-is_settled-clause-worked g c = works_more g.S.Shelf.honest (g.S.Shelf.refuses g.N.Naming.place) g.K.Invariant.keeps Choice _ _ _ c.tries.invariant.worked c.in_ok-is_settled.ensures.worked

pub returns-then-is_settled-clause-compacted : goal.returns-then-is_settled-clause-compacted
returns-then-is_settled-clause-compacted g c = compacted_since g.S.Shelf.honest g.K.Invariant.keeps c.args.memory.now c.tries.memory c.compact_once.new.memory c.tries.invariant.known (c.in_ok-is_settled.ensures.settled c.if-is_settled.true)

pub returns-in_err-is_settled-clause-known : goal.returns-in_err-is_settled-clause-known
returns-in_err-is_settled-clause-known g c = later_then c.args.memory.now c.tries.memory c.compact_once.new.memory c.tries.invariant.known c.compact_once.ensures.known

pub returns-in_err-is_settled-clause-stopped : goal.returns-in_err-is_settled-clause-stopped
returns-in_err-is_settled-clause-stopped g c =
    let p = err_from_is_err_and c.from_residual.result c.from_residual.ensures.1 in
    rw (p.1, p.2) (stops_after g.S.Shelf.honest (g.S.Shelf.refuses g.N.Naming.place) g.K.Invariant.keeps Choice _ _ _ _ c.tries.invariant.worked c.in_err-is_settled.ensures.stopped)

pub returns-then-is_settled-clause-kept : goal.returns-then-is_settled-clause-kept
returns-then-is_settled-clause-kept g c = λ known. c.compact_once.ensures.kept (c.tries.invariant.kept known)

pub returns-in_err-is_settled-clause-kept : goal.returns-in_err-is_settled-clause-kept
returns-in_err-is_settled-clause-kept g c = λ known. c.compact_once.ensures.kept (c.tries.invariant.kept known)
