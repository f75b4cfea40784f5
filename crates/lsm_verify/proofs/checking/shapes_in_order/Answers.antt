use Rattle.std.proofs.Common.{List, subst, sym, ◌∙◌}
use Rattle.lsm_table.specs.Registry.{Table}
use Rattle.lsm_verify.specs.Loading.{AreLevelsOf}
use Rattle.lsm_verify.proofs.FileOrder.{placed_as_read}
use Rattle.lsm_verify.proofs.checking.shapes_in_order.Goals as goal

pub returns : goal.returns
returns c = λ shape v is order. subst (λ (ls : List (List Table)). AreLevelsOf shape.last shape.levels ls) (sym (is.placed ∙ placed_as_read shape.last shape.levels is.read is.files order)) is.files
