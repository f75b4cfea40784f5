use Rattle.std.proofs.Common.{refl, zero}
use Rattle.std.proofs.KnownBytes.{Keeps-refl}
use Rattle.std.proofs.lemmas.Result.{err_from_is_err_and}
use Rattle.lsm_cmd_compact.proofs.Quiet.{quiet_then}
use Rattle.lsm_cmd_compact.proofs.RoundLaws.{rounds_done, rounds_more, rounds_stop}
use Rattle.lsm_cmd_compact.proofs.compacting.clear.Goals as goal

pub tries-init : goal.tries-init
tries-init g c = record { rounds = (zero, refl); quiet = λ q. Keeps-refl _ }

pub tries-preserved : goal.tries-preserved
tries-preserved g c = record {
  rounds = rounds_more (g.S.Shelf.refuses g.N.Naming.place) g.S.Shelf.honest g.K.Invariant.keeps g.N.Naming.place c.args.options.now.workers c.args.picks.now _ _ _ c.tries.invariant.rounds
      c.in_ok-take_round.ensures.round (c.is_cleared.ensures.more c.if-is_cleared.false);
  quiet = quiet_then c.args.options.now.progress _ _ _ c.tries.invariant.quiet c.in_ok-take_round.ensures.quiet;
}

pub returns-then-is_cleared-clause-rounds : goal.returns-then-is_cleared-clause-rounds
returns-then-is_cleared-clause-rounds g c =
    rounds_done (g.S.Shelf.refuses g.N.Naming.place) g.S.Shelf.honest g.K.Invariant.keeps g.N.Naming.place c.args.options.now.workers c.args.picks.now _ _ _ c.tries.invariant.rounds
    c.in_ok-take_round.ensures.round

pub returns-in_err-take_round-clause-refused : goal.returns-in_err-take_round-clause-refused
returns-in_err-take_round-clause-refused g c =
    let p = err_from_is_err_and c.from_residual.result c.from_residual.ensures.1 in
    rw (p.1, p.2) (rounds_stop (g.S.Shelf.refuses g.N.Naming.place) g.S.Shelf.honest g.K.Invariant.keeps g.N.Naming.place c.args.options.now.workers c.args.picks.now _ _ _ _ c.tries.invariant.rounds
    c.in_err-take_round.ensures.refused)
