use Rattle.std.proofs.Common.{◌≡◌, All, map, take}
use Rattle.lsm_table.specs.Registry.{image_of}
use Rattle.lsm_iterators.proofs.run.copies_of.Given as goal

abbrev pub invariant-loop-table : goal.invariant-loop-table
invariant-loop-table g l = record {
  named : All (g.S.Shelf.is_of g.N.Naming.place) l.copies.items;
  numbers : map g.S.Receipt.TableReceipt.number l.copies.items ≡ map (λ t. t.number) (take l.table-index l.tables);
  images : map g.S.Receipt.TableReceipt.image l.copies.items ≡ map image_of (take l.table-index l.tables);
}
