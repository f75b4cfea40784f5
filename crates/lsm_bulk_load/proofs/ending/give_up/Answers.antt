use Rattle.std.proofs.Common.{◌≢◌, ℕ, List, subst, sym, ap}
use Rattle.lsm_live.specs.Booked.{Booked, HasTicket}
use Rattle.lsm_state.specs.Held.{Held}
use Rattle.lsm_bulk_load.proofs.EndingLaws.{given_up, gone_with, not_given_up}
use Rattle.lsm_bulk_load.proofs.ending.give_up.Goals as goal

pub returns-in-Ok-clause-rest : goal.returns-in-Ok-clause-rest
returns-in-Ok-clause-rest g c = given_up c.args.state.now c.cancel.new.self _ c.in-Ok.ensures.ok.1

pub returns-in-Err-clause-rest : goal.returns-in-Err-clause-rest
returns-in-Err-clause-rest g c = not_given_up c.args.state.now c.cancel.new.self c.in-Err.ensures.err

pub returns-in-Ok-clause-gone : goal.returns-in-Ok-clause-gone
returns-in-Ok-clause-gone g c other has =
    subst (λ (l : List Booked). HasTicket l other → HasTicket c.args.state.now.live other × (other ≢ c.args.ticket)) (sym (ap (λ (h : Held). h.live) c.in-Ok.ensures.ok.1))
    (gone_with c.args.ticket c.args.state.now.live other) has

pub returns-in-Err-clause-gone : goal.returns-in-Err-clause-gone
returns-in-Err-clause-gone g c other has =
    let before : HasTicket c.args.state.now.live other = subst (λ (h : Held). HasTicket h.live other) c.in-Err.ensures.err has in
    (before, λ e. c.in-Err.ensures.refused.1 (subst (λ (n : ℕ). HasTicket c.args.state.now.live n) e before))
