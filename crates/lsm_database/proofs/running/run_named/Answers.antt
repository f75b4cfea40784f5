use Rattle.std.proofs.Common.{inl, inr, subst, sym}
use Rattle.lsm_state.specs.Held.{Held}
use Rattle.lsm_shelf.specs.Place.{Place}
use Rattle.lsm_shelf.specs.Told.{forks_behind}
use Rattle.lsm_store.specs.Working.{HaveEndedBeside}
use Rattle.lsm_database.specs.Keeping.{HasComeTo, HasSaid}
use Rattle.lsm_database.proofs.running.run_named.Goals as goal

pub returns-in-Err-clause-refused : goal.returns-in-Err-clause-refused
returns-in-Err-clause-refused g c = inl c.in-Err.ensures.refused

pub run_state-requires-clause-asks : goal.run_state-requires-clause-asks
run_state-requires-clause-asks g c κs within = λ ws may. may

pub returns-in-Err-run_state-clause-refused : goal.returns-in-Err-run_state-clause-refused
returns-in-Err-run_state-clause-refused g c = inr (
  c.in-Ok.state,
  c.start.new.shelf,
  c.in-Ok.ensures.started,
  c.in-Err-run_state.ensures.refused,
)

pub returns-in-Ok-run_state-clause-ran : goal.returns-in-Ok-run_state-clause-ran
returns-in-Ok-run_state-clause-ran g c =
    let H = g.S.Shelf.honest in
    let Refused = g.S.Shelf.refuses g.N.Naming.place in
    let program = c.args.program in
    let run = c.in-Ok-run_state.run' in
    record {
      state = c.in-Ok.state;
      mid = c.start.new.shelf;
      started = c.in-Ok.ensures.started;
      forked = c.in-Ok-run_state.ensures.just;
      said = subst
          (λ (h : Held). HasSaid (g.P.Program.asks program H h.history) h
          (λ es. g.P.Program.says program H h.history es run.0))
          c.remember-memory.ensures.same c.in-Ok-run_state.ensures.said;
      each = c.in-Ok-run_state.ensures.ends;
      worked = subst
          (λ (p : Place). HaveEndedBeside H Refused
          (HasComeTo Refused H (g.P.Program.asks program H c.in-Ok.state.history) c.in-Ok.state)
          (forks_behind p c.start.new.shelf.forks c.args.workers) run.1.items)
          (sym c.requires.shelf)
          (subst
          (λ (h : Held). HaveEndedBeside H Refused
          (HasComeTo Refused H (g.P.Program.asks program H h.history) h)
          (forks_behind g.N.Naming.place c.start.new.shelf.forks c.args.workers) run.1.items)
          c.remember-memory.ensures.same c.in-Ok-run_state.ensures.ended);
    }
