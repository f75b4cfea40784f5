use Rattle.lsm_live.proofs.Handing.{result_booked, result_is}
use Rattle.lsm_live.proofs.laws.live_results_are_installed.Goals as goal

pub returns-clause-booked : goal.returns-clause-booked
returns-clause-booked g c = result_booked g.S.Shelf.honest

pub returns-clause-result : goal.returns-clause-result
returns-clause-result g c = result_is g.S.Shelf.honest
