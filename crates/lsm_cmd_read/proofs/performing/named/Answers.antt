use Rattle.std.proofs.Common.{◌≡◌}
use Rattle.std.proofs.lemmas.List.Elements.{All-rest}
use Rattle.lsm_cmd_read.proofs.performing.named.Goals as goal

pub loop-shelf-preserved : goal.loop-shelf-preserved
loop-shelf-preserved g c = All-rest (λ s. (g.S.Shelf.told s).place ≡ g.N.Naming.place)
    c.in-Some.shelf _ _ c.in-Some.ensures.steps.0 c.loop-shelf.invariant
