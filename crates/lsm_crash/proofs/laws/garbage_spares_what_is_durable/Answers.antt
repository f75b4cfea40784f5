use Rattle.lsm_crash.proofs.Spoilt.{spoilt_keeps}
use Rattle.lsm_crash.proofs.laws.garbage_spares_what_is_durable.Goals as goal

pub returns : goal.returns
returns c = λ known d found i l. spoilt_keeps d known found i l
