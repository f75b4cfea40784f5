use Rattle.std.proofs.Common.{◌≡◌, List, [], ◌++◌, ap, ◌∙◌}
use Rattle.std.proofs.lemmas.List.{append-nil}
use Rattle.lsm_codec.specs.Entries.{Entry}
use Rattle.lsm_model.specs.Files.{all_entries}
use Rattle.lsm_version.specs.Versions.{files}
use Rattle.lsm_history.specs.History.{Chronicle}
use Rattle.lsm_state.proofs.EditionLaws.{made_editions}
use Rattle.lsm_state.proofs.OpenLaws.{lawful_opened, opened_made}
use Rattle.lsm_state.proofs.state.State.halted.Goals as goal

pub invariant_of-result : goal.invariant_of-result
invariant_of-result g c =
    let o = c.args.options in
    let v = c.args.version in
    let publisher = c.args.board.0 in
    let pinners = c.args.board.1.items in
    let is = c.requires.openable.1 in
    let es = all_entries (files v) in
    let grown : c.grow.new.self.entries ≡ es = ap (λ (k : Chronicle). k.entries) c.grow.ensures
    ∙ (ap (λ (x : List Entry). x ++ c.named-keeper.result.entries) c.entries_of_version.ensures
    ∙ (ap (λ (k : Chronicle). es ++ k.entries) c.named-keeper.ensures ∙ append-nil es)) in
    let came : c.publish.new.self.entries ≡ es =
    ap (λ (k : Chronicle). k.entries) c.publish.ensures ∙ grown in
    let none : c.grow.new.self.editions ≡ [] = ap (λ (k : Chronicle). k.editions) c.grow.ensures
    ∙ ap (λ (k : Chronicle). k.editions) c.named-keeper.ensures in (
      opened_made g.S.Shelf.honest g.N.Boarded.board o publisher pinners v c.args.journal
          c.args.next _ c.in_ok-slots.slots c.new-2.result c.new-3.result
          c.publish.new.self.entries c.in_ok-slots.ensures c.new-2.ensures c.new-3.ensures came
          (lawful_opened g.S.Shelf.honest g.N.Boarded.board o publisher pinners v c.args.journal
          c.args.next _ c.requires.openable.0 c.requires.fits c.requires.board is.sound is.recorded
          (λ e. absurd (cc)) is.below),
      made_editions c.in_ok-slots.slots publisher o.versions v c.version.result.now c.id.result
          c.edition_of.result.editions c.grow.new.self.editions c.publish.new.self.editions
          c.in_ok-slots.ensures c.id.ensures c.version.ensures.version c.edition_of.ensures none
          (ap (λ (k : Chronicle). k.editions) c.publish.ensures),
    )
