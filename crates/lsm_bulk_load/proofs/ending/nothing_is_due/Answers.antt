use Rattle.std.proofs.Common.{ap, subst, sym}
use Rattle.lsm_state.specs.Held.{Held}
use Rattle.lsm_bulk_load.specs.Ending.{IsIdle}
use Rattle.lsm_bulk_load.proofs.EndingLaws.{looked_back, looked_mark, reserves_back}
use Rattle.lsm_bulk_load.proofs.ending.nothing_is_due.Goals as goal

-- nothing was reserved, so the state is as it was when there was nothing to gather
pub returns-in-Ok-None-clause-idle : goal.returns-in-Ok-None-clause-idle
returns-in-Ok-None-clause-idle g c honest =
    let gathered = rw c.in-Ok-true.field-0-test at c.in-Ok-true.ensures.none in
    let none = (rw c.in-Ok-None.field-0-is at c.in-Ok-None.ensures.next) honest in
    let same = rw c.in-Ok-None.field-0-is at c.in-Ok-None.ensures.none in
    subst (λ (h : Held). IsIdle h) (sym same) (gathered, none)

pub returns-in-Ok-Some-clause-looked : goal.returns-in-Ok-Some-clause-looked
returns-in-Ok-Some-clause-looked g c =
    looked_back c.args.state.now c.reserve_next.new.self c.give_up.new.state _ _ (rw c.in-Ok-Some.field-0-is at c.in-Ok-Some.ensures.ok) c.give_up.ensures.rest

pub returns-in-Ok-Some-clause-same : goal.returns-in-Ok-Some-clause-same
returns-in-Ok-Some-clause-same g c =
    looked_mark c.args.state.now c.give_up.new.state
    (looked_back c.args.state.now c.reserve_next.new.self c.give_up.new.state _ _ (rw c.in-Ok-Some.field-0-is at c.in-Ok-Some.ensures.ok) c.give_up.ensures.rest)

pub returns-in-Ok-Some-clause-none : goal.returns-in-Ok-Some-clause-none
returns-in-Ok-Some-clause-none g c =
    reserves_back c.args.state.now c.reserve_next.new.self c.give_up.new.state _ _ (ap (λ (h : Held). h.live) (rw c.in-Ok-Some.field-0-is at c.in-Ok-Some.ensures.ok)) c.ticket.ensures.ticket c.give_up.ensures.gone
