use Rattle.std.proofs.Common.{◌≡◌, All}
use Rattle.std.specs.Vec.Iter.{into_iter_items}
use Rattle.lsm_cmd_read.proofs.seeing.mirrors_of.Given as goal

abbrev pub invariant-loop-shelf : goal.invariant-loop-shelf
invariant-loop-shelf g l = record {
  rest : All (λ s. (g.S.Shelf.told s).place ≡ g.V.Mirroring.place)
      (into_iter_items l.shelf-iterator);
  made : All (λ m. m.place ≡ g.V.Mirroring.place) l.mirrors.items;
}
