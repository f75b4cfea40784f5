use Rattle.std.proofs.Common.{◌≡◌, ◌++◌, ◌∙◌, ap, sym, subst}
use Rattle.lsm_codec.specs.Lists.{Has}
use Rattle.lsm_live.specs.Booked.{drawn_numbers}
use Rattle.lsm_slots.specs.Slots.{numbers_held}
use Rattle.lsm_state.specs.Collecting.{IsKeptNumber}
use Rattle.lsm_state.specs.Held.{Held}
use Rattle.lsm_state.proofs.Numbers.{kept_from, kept_to}
use Rattle.lsm_state.proofs.state.State.kept.Goals as goal

pub returns-clause-numbers : goal.returns-clause-numbers
returns-clause-numbers g c n =
    let h : Held = record { options = c.self.inside.options; slots = c.self.inside.slots; snapshots = c.self.inside.snapshots; next = c.self.inside.next; next_ticket = c.self.inside.next_ticket; live = c.self.inside.live; journal = c.self.inside.journal; halted = c.self.inside.halted; pinners = c.self.inside.pinners.items; history = c.self.inside.keeper.entries } in
    let pushed : c.push_drawn.new.numbers.items ≡ numbers_held h.slots.epochs ++ drawn_numbers h.live =
    c.in_ok-push_drawn.ensures.ok ∙ ap (λ l. l ++ drawn_numbers h.live) (c.in_ok-push_numbers.ensures ∙ ap (λ l. l ++ numbers_held h.slots.epochs) c.new-numbers.ensures.items) in
    let all = c.in_ok-kept.ensures.all n in
    subst (λ (x : Held). (Has c.in_ok-kept.kept.items n → IsKeptNumber x n) × (IsKeptNumber x n → Has c.in_ok-kept.kept.items n)) c.self.view_is
    (λ k. kept_from h n (subst (λ l. Has l n) pushed (all.0 k)), λ k. all.1 (subst (λ l. Has l n) (sym pushed) (kept_to h n k)))
