use Rattle.std.proofs.Common.{◌+◌, ap, ◌∙◌, subst}
use Rattle.lsm_version.specs.Versions.{Levels, no_levels}
use Rattle.lsm_slots.specs.Slots.{first_slots}
use Rattle.lsm_journal.specs.HeldManifest.{HeldManifest}
use Rattle.lsm_journal.specs.Recorded.{IsRecorded}
use Rattle.lsm_history.specs.History.{Chronicle}
use Rattle.lsm_state.proofs.EditionLaws.{made_editions}
use Rattle.lsm_state.proofs.StateLaws.{lawful_created, lawful_made}
use Rattle.lsm_state.proofs.state.State.create_under.Goals as goal

pub invariant_of-result : goal.invariant_of-result
invariant_of-result g c =
    let o = c.args.options in
    let slots = c.in_ok-slots.ensures ∙ ap (λ (v : Levels). first_slots c.args.board.0 o.versions v) c.in_ok-empty.ensures in
    let created = rw c.limit.ensures at c.in_ok-journal.ensures.created in
    let recorded = subst (λ (j : HeldManifest). IsRecorded 0 j no_levels (c.args.number + 1)) created c.in_ok-journal.ensures.recorded in
    let named = c.named-keeper.ensures in (
      lawful_made c.args.number g.S.Shelf.honest g.N.Boarded.board o c.args.board.0 c.args.board.1.items c.in_ok-slots.slots c.new-2.result c.new-3.result c.in_ok-journal.journal c.publish.new.self.entries slots c.new-2.ensures c.new-3.ensures created (ap (λ (k : Chronicle). k.entries) c.publish.ensures ∙ ap (λ (k : Chronicle). k.entries) named)
          (lawful_created c.args.number g.S.Shelf.honest g.N.Boarded.board o c.args.board.0 c.args.board.1.items c.requires.fits c.requires.board c.created_stores_are_lawful.ensures recorded),
      made_editions c.in_ok-slots.slots c.args.board.0 o.versions no_levels c.version.result.now c.id.result c.edition_of.result.editions c.named-keeper.result.editions c.publish.new.self.editions slots c.id.ensures c.version.ensures.version
          c.edition_of.ensures (ap (λ (k : Chronicle). k.editions) named) (ap (λ (k : Chronicle). k.editions) c.publish.ensures),
    )
