use Rattle.std.proofs.Common.{◌≡◌, sym, ◌∙◌, ap, subst}
use Rattle.lsm_version.specs.Versions.{IsSound, Levels}
use Rattle.lsm_journal.specs.Difference.{changed_by}
use Rattle.lsm_state.specs.Held.{Held}
use Rattle.lsm_state.proofs.ChangeLaws.{sound_after}
use Rattle.lsm_state.proofs.state.State.version_after.Goals as goal

pub apply-requires-after_bounds : goal.apply-requires-after_bounds
apply-requires-after_bounds g c κs within =
    let h : Held = c.args.self.now in
    let same : c.version-current.result.now ≡ h.slots.version = c.version-current.ensures.version ∙ ap (λ (x : Held). x.slots.version) c.self.view_is in
    let sound : g.S.Shelf.honest → IsSound h.slots.version = λ fair. subst (λ (v : Levels). IsSound v) same (c.last-last.ensures.sound fair) in
    λ fair. subst (λ (v : Levels). IsSound (changed_by c.args.change.now v)) (sym same)
    (sound_after c.changed_is_sound.ensures g.S.Shelf.honest h c.args.change.now c.args.out sound c.requires.whole c.requires.law fair)
