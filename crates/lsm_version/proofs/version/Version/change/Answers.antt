use Rattle.std.proofs.Common.{List, length, ap, sym, subst, ◌∙◌}
use Rattle.std.proofs.lemmas.List.{length-map}
use Rattle.std.proofs.lemmas.Result.{IfOk-weaker}
use Rattle.lsm_table.specs.Registry.{Table}
use Rattle.lsm_version.specs.Versions.{Levels, IsSound, AreInOrder}
use Rattle.lsm_version.specs.Changes.{levels_after, with_pointer}
use Rattle.lsm_version.proofs.Changing.{levels_in_order, length-levels_after, length-with_pointer, changed_is}
use Rattle.lsm_version.proofs.version.Version.change.Goals as goal

pub of-requires-clause-levels : goal.of-requires-clause-levels
of-requires-clause-levels g c κs within =
    let deleted = c.args.deleted.now in
    let added = c.args.added.now in
    let made = c.in_ok-levels.ensures ∙ ap (levels_after deleted added 0) c.levels.ensures.tables in
    sym (length-map c.in_ok-levels.levels.items (λ l. l.items)) ∙ ap length made ∙ length-levels_after deleted added 0 c.args.self.now.tables
    ∙ ap length (sym c.levels.ensures.tables) ∙ length-map c.levels.result.now (λ l. l.items) ∙ c.levels.ensures.seven

pub of-requires-clause-pointers : goal.of-requires-clause-pointers
of-requires-clause-pointers g c κs within =
    ap length (c.in_ok-pointers.ensures ∙ ap (with_pointer c.args.pointer) c.as_slice.ensures.value) ∙ length-with_pointer c.args.pointer c.self.inside.pointers.items ∙ c.self.invariant.1

pub of-requires-clause-order : goal.of-requires-clause-order
of-requires-clause-order g c κs within =
    let made = c.in_ok-levels.ensures ∙ ap (levels_after c.args.deleted.now c.args.added.now 0) c.levels.ensures.tables in
    subst (λ (ls : List (List Table)). AreInOrder ls) (sym made) (levels_in_order c.args.deleted.now c.args.added.now 0 c.args.self.now.tables c.levels.ensures.order)

pub of-requires-clause-sound : goal.of-requires-clause-sound
of-requires-clause-sound g c κs within = λ h.
    let made = c.in_ok-levels.ensures ∙ ap (levels_after c.args.deleted.now c.args.added.now 0) c.levels.ensures.tables in
    let held = c.in_ok-pointers.ensures ∙ ap (with_pointer c.args.pointer) c.as_slice.ensures.value ∙ ap (λ (v : Levels). with_pointer c.args.pointer v.pointers) c.self.view_is in
    subst IsSound (sym (changed_is c.args.deleted.now c.args.added.now c.args.pointer c.args.last c.args.self.now _ _ made held)) (c.requires.sound h)

pub returns : goal.returns
returns g c =
    let made = c.in_ok-levels.ensures ∙ ap (levels_after c.args.deleted.now c.args.added.now 0) c.levels.ensures.tables in
    let held = c.in_ok-pointers.ensures ∙ ap (with_pointer c.args.pointer) c.as_slice.ensures.value ∙ ap (λ (v : Levels). with_pointer c.args.pointer v.pointers) c.self.view_is in
    IfOk-weaker c.of.result _ _ (λ v e. e ∙ changed_is c.args.deleted.now c.args.added.now c.args.pointer c.args.last c.args.self.now _ _ made held) c.of.ensures
