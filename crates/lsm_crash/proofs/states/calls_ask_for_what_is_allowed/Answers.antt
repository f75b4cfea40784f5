use Rattle.lsm_crash.proofs.Worlds.{deed_allowed}
use Rattle.lsm_crash.proofs.states.calls_ask_for_what_is_allowed.Goals as goal

pub returns : goal.returns
returns g c = λ board old new deed asks w v lo ln o comes a ready to. deed_allowed c.changed_tables.ensures g.P.Premise.holds board old new deed asks w v lo ln o comes a ready to
