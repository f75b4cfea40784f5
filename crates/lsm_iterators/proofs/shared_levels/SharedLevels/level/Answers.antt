use Rattle.std.proofs.Common.{◌≡◌, ◌∙◌, List, ap, arith, length, map, sym}
use Rattle.std.proofs.lemmas.List.{length-map}
use Rattle.std.specs.Arc.{arc_value}
use Rattle.lsm_table.specs.Registry.{Table}
use Rattle.lsm_model.specs.Checking.{level_in}
use Rattle.lsm_iterators.proofs.RunLaws.{level_in-map}
use Rattle.lsm_iterators.proofs.shared_levels.SharedLevels.level.Goals as goal

pub returns : goal.returns
returns g c =
    let count : length c.deref.result.now.items ≡ length c.args.self.now =
    ap (λ v. length v.items) c.deref.ensures ∙ sym (length-map (arc_value c.self.inside.levels).items (λ l. l.items)) ∙ ap length c.self.view_is in
    let inside = c.requires in
    c.as_slice.ensures.value
    ∙ sym (level_in-map (λ l. l.items) c.deref.result.now.items c.args.level c.index.result.now (omega arith) c.index.ensures)
    ∙ ap (λ v. level_in (map (λ l. l.items) v.items) c.args.level) c.deref.ensures
    ∙ ap (λ (ls : List (List Table)). level_in ls c.args.level) c.self.view_is
