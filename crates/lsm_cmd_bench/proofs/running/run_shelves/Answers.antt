use Rattle.std.proofs.Common.{OnOk, inl, refl, subst}
use Rattle.lsm_state.specs.Held.{Held}
use Rattle.lsm_bulk_load.specs.Keeping.{IsTaken}
use Rattle.lsm_bulk_load.specs.Marks.{Marked, marked_in}
use Rattle.lsm_cmd_bench.specs.Benched.{Leaves}
use Rattle.lsm_cmd_bench.specs.Filled.{RunsAll}
use Rattle.lsm_cmd_bench.proofs.running.run_shelves.Goals as goal

pub store_of-requires-clause-first : goal.store_of-requires-clause-first
store_of-requires-clause-first g c κs within = λ h taken. c.requires.first h (subst (λ (s : Held). IsTaken s h) c.of-mark.ensures.same taken)

pub returns-in-Ok-clause-ran : goal.returns-in-Ok-clause-ran
returns-in-Ok-clause-ran g c =
    let o = c.args.options.now in
    subst (λ (m : Marked). OnOk c.run_store.result (Leaves g.S.Shelf.honest g.N.Boarded.board g.O.Origin.keeps (λ h. RunsAll o.num o.value_size o.benchmarks.items m (marked_in h)))) c.of-mark.ensures.mark
    c.run_store.ensures.ran

pub returns-in-Err-clause-stopped : goal.returns-in-Err-clause-stopped
returns-in-Err-clause-stopped g c = (c.args.state, c.options-options.ensures.law, ∣ c.requires.first c.args.state (inl refl) ∣₁, tt)
