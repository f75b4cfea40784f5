use Rattle.std.proofs.Common.{◌∙◌, ◌∷◌, [], List, map, ap}
use Rattle.std.specs.List.{filter}
use Rattle.std.proofs.lemmas.List.{map-append}
use Rattle.lsm_table.specs.Registry.{Table}
use Rattle.lsm_verify.specs.Chosen.{is_among}
use Rattle.lsm_verify.proofs.AgeLaws.{chosen_more}
use Rattle.lsm_verify.proofs.ages.choose.Goals as goal

pub loop-level-preserved : goal.loop-level-preserved
loop-level-preserved g c =
    chosen_more (λ l. l.items) c.args.numbers.now c.args.levels.now c.loop-level.level-index c.level-item.result (map (λ l. l.items) c.loop-level.chosen.items) (map (λ l. l.items) c.push.new.self.items)
    c.in_ok-choose_level.field-0.items c.loop-level-test.true c.level-item.is
    (c.in_ok-choose_level.ensures ∙ ap (λ (ts : List Table). filter (is_among c.args.numbers.now) ts) c.as_slice.ensures.value)
    (ap (map (λ l. l.items)) c.in_ok-push.ensures.items ∙ map-append (λ l. l.items) c.loop-level.chosen.items (c.in_ok-choose_level.field-0 ∷ []))
    c.loop-level.invariant
