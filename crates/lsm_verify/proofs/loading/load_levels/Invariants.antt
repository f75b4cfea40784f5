use Rattle.std.proofs.Common.{◌≡◌, take, map}
use Rattle.lsm_table.specs.Told.{Becomes}
use Rattle.lsm_verify.specs.Loading.{AreRead}
use Rattle.lsm_version.specs.Versions.{AreInOrder}
use Rattle.lsm_verify.proofs.loading.load_levels.Given as goal

abbrev pub invariant-loop-level : goal.invariant-loop-level
invariant-loop-level g l = record {
  told : Becomes l.fn.shelf l.shelf;
  order : AreInOrder (map (λ l. l.items) l.tables.items);
  read : AreRead (λ number image. (r : g.row.S-Receipt.Denot) × g.S.Shelf.is_of g.N.Naming.place r × (g.S.Receipt.TableReceipt.number r ≡ number) × (g.S.Receipt.TableReceipt.image r ≡ image))
      l.shape.last (take l.level-index l.shape.levels) (map (λ l. l.items) l.tables.items) (map (λ l. l.items) l.sequences.items);
}
