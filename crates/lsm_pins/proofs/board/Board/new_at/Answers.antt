use Rattle.std.proofs.Common.{rules, ◌∙◌, ◌+◌, ◌∷◌, [], take, sym, ap, subst, arith}
use Rattle.lsm_pins.proofs.SeatSteps.{opens, makes_reader}
use Rattle.lsm_pins.specs.View.{first_view, slot_ids, start_of}
use Rattle.lsm_pins.proofs.SlotLemmas.{ids-first}
use Rattle.lsm_pins.specs.Rule.{IsKept}
use Rattle.lsm_pins.proofs.board.Board.new_at.Goals as goal

pub of_words-requires : goal.of_words-requires
of_words-requires c =
    let some_reader = c.requires.readers in
    let few = c.requires.slots in
    subst (λ ws. IsKept (take (c.args.slots + 1) ws) (first_view (start_of c.args.slots c.args.id) ∷ [])) (sym c.first_words-words.ensures)
    (opens c.args.slots c.args.id (omega arith) (omega arith) c.requires.id)

pub split_seat-other-requires : goal.split_seat-other-requires
split_seat-other-requires c =
    let i = c.loop-made.invariant in
    let most = c.requires.readers in
    let below = c.loop-made-test.true in
    let parts = i.parts in
    (search rules, search rules, makes_reader c.deref.result.now.shared.key _ _ (ap (λ v. v.live) i.knows) (omega arith) (ap (λ v. v.count) i.knows))

pub returns-clause-slots : goal.returns-clause-slots
returns-clause-slots c = ap slot_ids c.loop-made.invariant.knows ∙ ids-first c.args.slots c.args.id
