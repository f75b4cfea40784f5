use Rattle.std.proofs.Common.{◌∙◌, ap, take, drop, ◌-◌, List}
use Rattle.std.proofs.lemmas.Slice.{between_is}
use Rattle.lsm_table.specs.Registry.{Table}
use Rattle.lsm_iterators.proofs.row.Row.tables.Goals as goal

pub returns : goal.returns
returns g c =
    ap (λ (ts : List Table). take (c.self.inside.end - c.self.inside.begin) (drop c.self.inside.begin ts)) c.level.ensures ∙ between_is _ c.self.inside.begin c.self.inside.end ∙ c.self.view_is
