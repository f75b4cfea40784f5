use Rattle.std.proofs.Common.{subst}
use Rattle.lsm_state.specs.Held.{Held}
use Rattle.lsm_bulk_load.specs.Ending.{ReservesNone}
use Rattle.lsm_bulk_load.proofs.ending.finish.Goals as goal

pub returns-in-Ok-judge_ends-clause-none : goal.returns-in-Ok-judge_ends-clause-none
returns-in-Ok-judge_ends-clause-none g c =
    subst (λ (h : Held). ReservesNone h c.nothing_is_due.new.state) c.is_of.ensures.same
    c.nothing_is_due.ensures.none
