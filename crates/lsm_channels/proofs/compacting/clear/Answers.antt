use Rattle.std.proofs.Common.{[], refl}
use Rattle.std.proofs.lemmas.Result.{err_from_is_err_and}
use Rattle.lsm_channels.proofs.KnownLaws.{cleared_since, later_then}
use Rattle.lsm_channels.proofs.WorkLaws.{stops_after, works_more, works_none}
use Rattle.lsm_channels.proofs.compacting.clear.Goals as goal

pub tries-init : goal.tries-init
tries-init g c = record { known = ([], refl); worked = works_none g.S.Shelf.honest (g.S.Shelf.refuses g.N.Naming.place) g.K.Invariant.keeps c.args.picks.now _; kept = λ known. known }

pub tries-preserved : goal.tries-preserved
tries-preserved g c = record {
  known = later_then c.args.memory.now c.tries.memory c.clear_once.new.memory c.tries.invariant.known c.clear_once.ensures.known;
  worked = works_more g.S.Shelf.honest (g.S.Shelf.refuses g.N.Naming.place) g.K.Invariant.keeps c.args.picks.now _ _ _ c.tries.invariant.worked c.in_ok-is_clear.ensures.worked;
  kept = λ known. c.clear_once.ensures.kept (c.tries.invariant.kept known);
}

pub returns-then-is_clear-clause-known : goal.returns-then-is_clear-clause-known
returns-then-is_clear-clause-known g c = later_then c.args.memory.now c.tries.memory c.clear_once.new.memory c.tries.invariant.known c.clear_once.ensures.known

pub returns-then-is_clear-clause-worked : goal.returns-then-is_clear-clause-worked
returns-then-is_clear-clause-worked g c = works_more g.S.Shelf.honest (g.S.Shelf.refuses g.N.Naming.place) g.K.Invariant.keeps c.args.picks.now _ _ _ c.tries.invariant.worked c.in_ok-is_clear.ensures.worked

pub returns-then-is_clear-clause-clear : goal.returns-then-is_clear-clause-clear
returns-then-is_clear-clause-clear g c = cleared_since g.K.Invariant.keeps c.args.picks.now c.args.memory.now c.tries.memory c.clear_once.new.memory c.tries.invariant.known (c.in_ok-is_clear.ensures.clear c.if-is_clear.true)

pub returns-in_err-is_clear-clause-known : goal.returns-in_err-is_clear-clause-known
returns-in_err-is_clear-clause-known g c = later_then c.args.memory.now c.tries.memory c.clear_once.new.memory c.tries.invariant.known c.clear_once.ensures.known

pub returns-in_err-is_clear-clause-stopped : goal.returns-in_err-is_clear-clause-stopped
returns-in_err-is_clear-clause-stopped g c =
    let p = err_from_is_err_and c.from_residual.result c.from_residual.ensures.1 in
    rw (p.1, p.2) (stops_after g.S.Shelf.honest (g.S.Shelf.refuses g.N.Naming.place) g.K.Invariant.keeps c.args.picks.now _ _ _ _ c.tries.invariant.worked c.in_err-is_clear.ensures.stopped)

pub returns-then-is_clear-clause-kept : goal.returns-then-is_clear-clause-kept
returns-then-is_clear-clause-kept g c = λ known. c.clear_once.ensures.kept (c.tries.invariant.kept known)

pub returns-in_err-is_clear-clause-kept : goal.returns-in_err-is_clear-clause-kept
returns-in_err-is_clear-clause-kept g c = λ known. c.clear_once.ensures.kept (c.tries.invariant.kept known)
