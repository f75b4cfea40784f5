use Rattle.lsm_crash.proofs.Lasting.{held_shown, history_kept, left_found, phase_found, phase_shown}
use Rattle.lsm_crash.proofs.laws.what_is_shown_is_kept.Goals as goal

pub returns-clause-shown : goal.returns-clause-shown
returns-clause-shown c = λ known d i k. held_shown d known i k

pub returns-clause-found : goal.returns-clause-found
returns-clause-found c = λ known d found i k l. left_found d known found i k l

pub returns-clause-histories : goal.returns-clause-histories
returns-clause-histories c = λ moves p q d e i k ks h.
    let r = history_kept moves p q d e i k ks h in
    (r.1, phase_shown q e r.0 r.1, λ found l. phase_found q e found r.0 r.1 l)
