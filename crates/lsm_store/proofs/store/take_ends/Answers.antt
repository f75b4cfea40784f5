use Rattle.std.proofs.Common.{All, List, sym, subst}
use Rattle.lsm_pins.specs.Known.{Known}
use Rattle.lsm_store.specs.Readers.{IsFreeEnd}
use Rattle.lsm_store.proofs.SeatLaws.{all_of_has}
use Rattle.lsm_store.proofs.store.take_ends.Goals as goal

pub returns-clause-ends : goal.returns-clause-ends
returns-clause-ends g c =
    subst (λ (ps : List Known). All (IsFreeEnd g.N.Boarded.board) ps) (sym c.take_pinners.ensures.taken)
    (all_of_has (IsFreeEnd g.N.Boarded.board) c.args.state.now.pinners c.options-options.ensures.law.pinners)
