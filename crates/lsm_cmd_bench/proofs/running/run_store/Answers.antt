use Rattle.lsm_bulk_load.proofs.CallerLemmas.{even_out, fact_out}
use Rattle.lsm_cmd_bench.proofs.RunLaws.{left_at, stopped_at}
use Rattle.lsm_cmd_bench.proofs.running.run_store.Goals as goal

pub judge_state-requires-after_bounds : goal.judge_state-requires-after_bounds
judge_state-requires-after_bounds g c κs within = even_out g.O.Origin.keeps g.O.Origin.found c.into_state-state.result c.into_state-state.ensures.kept

pub returns-in-Ok-clause-ran : goal.returns-in-Ok-clause-ran
returns-in-Ok-clause-ran g c =
    left_at c.judge_state.result g.S.Shelf.honest g.N.Boarded.board g.O.Origin.keeps c.args.options.now.num c.args.options.now.value_size c.args.options.now.benchmarks.items c.args.mark c.in-Ok.mark
    c.into_state-state.result c.options-options.ensures.law (fact_out g.O.Origin.keeps g.O.Origin.found c.into_state-state.result c.into_state-state.ensures.kept) c.in-Ok.ensures c.judge_state.ensures

pub returns-in-Ok-clause-stopped : goal.returns-in-Ok-clause-stopped
returns-in-Ok-clause-stopped g c =
    stopped_at c.judge_state.result g.S.Shelf.honest g.N.Boarded.board g.O.Origin.keeps c.into_state-state.result c.options-options.ensures.law
    (fact_out g.O.Origin.keeps g.O.Origin.found c.into_state-state.result c.into_state-state.ensures.kept)

pub returns-clause-stopped : goal.returns-clause-stopped
returns-clause-stopped g c =
    (c.into_state-state.result, c.options-options.ensures.law, fact_out g.O.Origin.keeps g.O.Origin.found c.into_state-state.result c.into_state-state.ensures.kept, tt)
