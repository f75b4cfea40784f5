use Rattle.lsm_bulk_load.proofs.CallerLemmas.{kept_seated}
use Rattle.lsm_cmd_bench.proofs.running.store_of.Goals as goal

pub new-requires-clause-kept : goal.new-requires-clause-kept
new-requires-clause-kept g c κs within = λ h seated. kept_seated g.O.Origin.keeps g.O.Origin.found c.args.state h c.requires.found c.requires.first seated
