use Rattle.std.proofs.Common.{inl, refl}
use Rattle.lsm_cmd_bench.proofs.running.run_state.Goals as goal

pub returns-in-Err-clause-stopped : goal.returns-in-Err-clause-stopped
returns-in-Err-clause-stopped g c = (c.args.state, c.options-options.ensures.law, ∣ c.requires.first c.args.state (inl refl) ∣₁, tt)
