use Rattle.std.proofs.Common.{ap, sym, ◌∙◌}
use Rattle.lsm_history.specs.Rule.{asking}
use Rattle.lsm_history.proofs.HistorySteps.{asks_as, compares_as}
use Rattle.lsm_history.proofs.keeper.Keeper.recall.Goals as goal

pub join_seat-requires : goal.join_seat-requires
join_seat-requires g c =
    let i = c.self.invariant in
    let m = c.memory.invariant in
    (i.2 ∙ sym i.1, m.0 ∙ sym i.1, ap (λ x. x.1) m.1, i.0, asks_as _ _ _ _ i.3)

pub load-requires : goal.load-requires
load-requires g c =
    let i = c.self.invariant in
    let j = c.join_seat.ensures in
    let is = j.2 ∙ ap (λ x. (asking x.0 c.memory.inside.seat.me.0, x.1)) i.3 in
    (j.0 ∙ (i.2 ∙ sym i.1), i.0, compares_as _ _ _ c.self.inside.seat.me.0.seen c.memory.inside.seat.me.0 (λ n. n) 0 is)
