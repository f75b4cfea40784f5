use Rattle.std.proofs.Common.{true, List, Option, ap, subst}
use Rattle.lsm_codec.specs.Lists.{Has}
use Rattle.lsm_slots.specs.Slots.{Epoch, Slotted, numbers_held}
use Rattle.lsm_state.specs.Held.{Held}
use Rattle.lsm_state.proofs.EditionLaws.{noted_editions}
use Rattle.lsm_state.proofs.StateLaws.{lawful_slots}
use Rattle.lsm_state.proofs.state.State.learn.Goals as goal

pub invariant_of-self : goal.invariant_of-self
invariant_of-self g c =
    let h : Held = record { options = c.self.inside.options; slots = c.self.inside.slots; snapshots = c.self.inside.snapshots; next = c.self.inside.next; next_ticket = c.self.inside.next_ticket; live = c.self.inside.live; journal = c.self.inside.journal; halted = c.self.inside.halted; pinners = c.self.inside.pinners.items; history = c.self.inside.keeper.entries } in
    let rest = c.learn.ensures.rest in (
      lawful_slots g.S.Shelf.honest g.N.Boarded.board h c.learn.new.self c.self.invariant.0 (ap (λ (s : Slotted). s.version) rest)
          (λ n k. subst (λ (es : List (Option Epoch)). Has (numbers_held es) n) (ap (λ (s : Slotted). s.epochs) rest) k),
      noted_editions h.slots c.learn.new.self _ true c.learn.new.pinner.knows rest c.learn.ensures.board.1 c.self.invariant.1,
    )
