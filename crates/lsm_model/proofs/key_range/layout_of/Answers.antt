use Rattle.std.proofs.Common.{◌≡◌, ◌<◌, List, [], ◌∷◌, length, refl, ◌∙◌, arith}
use Rattle.lsm_model.specs.Ranges.{Range, layout_along}
use Rattle.lsm_model.specs.declared.key_range.Layout.{Layout}
use Rattle.lsm_model.proofs.Ranges.{laid_out}
use Rattle.lsm_model.proofs.key_range.layout_of.Goals as goal

none_left : (layout : Layout) (rest : List Range) → length rest < 1 → layout_along layout rest ≡ layout
none_left layout [] h = refl
none_left layout (a ∷ rest) h = absurd (omega arith)

pub returns : goal.returns
returns c = λ level. laid_out c.args.ranges.now c.loop-rest.layout level (c.loop-rest.invariant ∙ none_left c.loop-rest.layout c.loop-rest.rest.now c.in_default.len_below)
