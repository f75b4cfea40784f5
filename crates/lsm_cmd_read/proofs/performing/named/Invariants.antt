use Rattle.std.proofs.Common.{◌≡◌, All}
use Rattle.std.specs.Vec.Iter.{into_iter_items}
use Rattle.lsm_cmd_read.proofs.performing.named.Given as goal

abbrev pub invariant-loop-shelf : goal.invariant-loop-shelf
invariant-loop-shelf g l = All (λ s. (g.S.Shelf.told s).place ≡ g.N.Naming.place)
    (into_iter_items l.shelf-iterator)
