use Rattle.lsm_script.proofs.Elements.{kept_live}
use Rattle.lsm_script.proofs.reserving.reserve.Goals as goal

pub keep-requires-clause-live : goal.keep-requires-clause-live
keep-requires-clause-live g c κs within = kept_live c.args.state.now c.reserve-2.new.self c.in-Ok.found c.in-Some.job c.in-Some.is c.in-Ok.ensures.ok
