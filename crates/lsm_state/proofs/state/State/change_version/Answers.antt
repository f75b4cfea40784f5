use Rattle.std.proofs.Common.{◌≡◌, List, ◌++◌, sym, ◌∙◌, ap, subst}
use Rattle.lsm_codec.specs.Entries.{Entry}
use Rattle.lsm_codec.specs.Lists.{Has}
use Rattle.lsm_shelf.specs.Asked.{Asked}
use Rattle.lsm_shelf.specs.Refusals.{IsWantOr}
use Rattle.lsm_shelf.specs.declared.shelf_fault.ShelfFault.{ShelfFault}
use Rattle.lsm_version.specs.Versions.{Levels}
use Rattle.lsm_model.specs.Law.{Law}
use Rattle.lsm_model.specs.Runs.{Agrees}
use Rattle.lsm_slots.specs.Slots.{Published}
use Rattle.lsm_live.specs.Booked.{Booked}
use Rattle.lsm_journal.specs.Difference.{Difference, changed_by}
use Rattle.lsm_journal.specs.Recorded.{IsRecorded}
use Rattle.lsm_journal.specs.Sending.{asked_by}
use Rattle.lsm_state.specs.Asked.{ChangeRefused}
use Rattle.lsm_state.specs.Held.{HasInputs, Held}
use Rattle.lsm_state.specs.Changing.{live_after, plain_after}
use Rattle.lsm_history.specs.History.{Chronicle}
use Rattle.lsm_state.proofs.EditionLaws.{issued_editions}
use Rattle.lsm_state.proofs.ChangeLaws.{lawful_changed, next_rises}
use Rattle.lsm_state.proofs.state.State.change_version.Goals as goal

pub invariant_of-self-2 : goal.invariant_of-self-2
invariant_of-self-2 g c =
    let h : Held = record { options = c.self.inside.options; slots = c.self.inside.slots; snapshots = c.self.inside.snapshots; next = c.self.inside.next; next_ticket = c.self.inside.next_ticket; live = c.self.inside.live; journal = c.self.inside.journal; halted = c.self.inside.halted; pinners = c.self.inside.pinners.items; history = c.self.inside.keeper.entries } in
    let d : Difference = c.args.change.now in
    let w : Levels = changed_by d h.slots.version in
    let back = ap (λ (x : Held). changed_by d x.slots.version) (sym c.self.view_is) in
    let after = subst (λ (x : Held). Law g.S.Shelf.honest (plain_after x d c.args.out)) (sym c.self.view_is) c.requires.law in
    let inputs = subst (λ (x : Held). (b : Booked) → Has (live_after c.args.out x.live) b → HasInputs (changed_by d x.slots.version) b.work) (sym c.self.view_is) c.requires.inputs in
    let published = subst (λ (v : Levels). Published h.slots c.publish-id.new.self v) (c.in_ok-first.ensures.first ∙ back) c.publish-id.ensures.published in
    let recorded = subst (λ (v : Levels). IsRecorded 0 c.send-sent.new.self v c.in-Ok.next) (c.deref-2.ensures ∙ c.in_ok-first.ensures.first ∙ back) c.in-Ok.ensures.recorded in
    let came : c.grow.new.self.entries ≡ c.args.coming.now.entries ++ h.history =
    ap (λ (k : Chronicle). k.entries) c.grow.ensures ∙ ap (λ (k : Chronicle). c.args.coming.now.entries ++ k.entries) c.publish.ensures in
    let listed : c.grow.new.self.editions ≡ c.edition_of.result.editions ++ c.self.inside.keeper.editions = ap (λ (k : Chronicle). k.editions) c.grow.ensures ∙ ap (λ (k : Chronicle). k.editions) c.publish.ensures in
    let agrees : g.S.Shelf.honest → Agrees (plain_after h d c.args.out) c.grow.new.self.entries = λ y. subst (λ (es : List Entry). Agrees (plain_after h d c.args.out) es) (sym came)
    (subst (λ (x : Held). Agrees (plain_after x d c.args.out) (c.args.coming.now.entries ++ x.history)) (sym c.self.view_is) (c.requires.agrees y)) in
    let rises = next_rises d c.deref-2.result.now h.next c.in-Ok.next h.journal c.send-sent.new.self c.args.shelf.now c.send-sent.new.shelf c.in-Ok.ensures.sends in (
      lawful_changed g.S.Shelf.honest g.N.Boarded.board h d c.args.out c.publish-id.new.self c.in-Ok.next c.take_out.new.live c.send-sent.new.self c.grow.new.self.entries c.self.invariant.0
          after published c.take_out.ensures recorded rises inputs agrees,
      issued_editions h.slots c.publish-id.new.self (changed_by d h.slots.version) c.version.result.now c.publish-id.result c.edition_of.result.editions c.self.inside.keeper.editions c.grow.new.self.editions published c.publish-id.ensures.id c.version.ensures.version
          c.edition_of.ensures listed c.self.invariant.1,
    )

pub returns-in-Err-clause-asked : goal.returns-in-Err-clause-asked
returns-in-Err-clause-asked g c =
    let h : Held = record { options = c.self.inside.options; slots = c.self.inside.slots; snapshots = c.self.inside.snapshots; next = c.self.inside.next; next_ticket = c.self.inside.next_ticket; live = c.self.inside.live; journal = c.self.inside.journal; halted = c.self.inside.halted; pinners = c.self.inside.pinners.items; history = c.self.inside.keeper.entries } in
    let d : Difference = c.args.change.now in
    let Refused : Asked → ShelfFault → Type 0 = g.S.Shelf.refuses g.N.Naming.place in
    let back = ap (λ (x : Held). changed_by d x.slots.version) (sym c.self.view_is) in
    let after = c.deref-2.ensures ∙ c.in_ok-first.ensures.first ∙ back in
    subst (λ (x : Held). IsWantOr (ChangeRefused Refused x d) c.in-Err.fault) c.self.view_is (subst (λ (v : Levels). IsWantOr (Refused (asked_by d v h.next h.journal)) c.in-Err.fault) after c.in-Err.ensures.asked)
