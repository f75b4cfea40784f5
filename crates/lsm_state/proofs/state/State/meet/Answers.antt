use Rattle.std.proofs.Common.{List, Option, is_some, ap, subst}
use Rattle.lsm_codec.specs.Lists.{Has}
use Rattle.lsm_slots.specs.Slots.{Epoch, Slotted, numbers_held}
use Rattle.lsm_state.specs.Held.{Held}
use Rattle.lsm_state.proofs.EditionLaws.{noted_editions}
use Rattle.lsm_state.proofs.StateLaws.{lawful_slots}
use Rattle.lsm_state.proofs.Numbers.{kept_if}
use Rattle.lsm_state.proofs.state.State.meet.Goals as goal

pub returns-clause-kept : goal.returns-clause-kept
returns-clause-kept g c =
    let h : Held = record { options = c.self.inside.options; slots = c.meet.new.self; snapshots = c.self.inside.snapshots; next = c.self.inside.next; next_ticket = c.self.inside.next_ticket; live = c.self.inside.live; journal = c.self.inside.journal; halted = c.self.inside.halted; pinners = c.self.inside.pinners.items; history = c.self.inside.keeper.entries } in
    kept_if (λ v. v.items) h c.args.pinner.now.knows.held c.meet.result c.meet.ensures.some

pub invariant_of-self : goal.invariant_of-self
invariant_of-self g c =
    let h : Held = record { options = c.self.inside.options; slots = c.self.inside.slots; snapshots = c.self.inside.snapshots; next = c.self.inside.next; next_ticket = c.self.inside.next_ticket; live = c.self.inside.live; journal = c.self.inside.journal; halted = c.self.inside.halted; pinners = c.self.inside.pinners.items; history = c.self.inside.keeper.entries } in
    let rest = c.meet.ensures.rest in (
      lawful_slots g.S.Shelf.honest g.N.Boarded.board h c.meet.new.self c.self.invariant.0 (ap (λ (s : Slotted). s.version) rest)
          (λ n k. subst (λ (es : List (Option Epoch)). Has (numbers_held es) n) (ap (λ (s : Slotted). s.epochs) rest) k),
      noted_editions h.slots c.meet.new.self _ (is_some c.args.pinner.now.knows.held) c.args.pinner.now.knows rest c.meet.ensures.board.1 c.self.invariant.1,
    )
