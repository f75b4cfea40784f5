use Rattle.std.proofs.Common.{◌≡◌, take}
use Rattle.std.specs.List.Sorted.{IsSortedBy}
use Rattle.lsm_table.specs.Told.{Becomes}
use Rattle.lsm_verify.specs.Loading.{IsLevelRead}
use Rattle.lsm_version.specs.Versions.{stands_before}
use Rattle.lsm_verify.proofs.loading.load_level.Given as goal

abbrev pub invariant-loop-file : goal.invariant-loop-file
invariant-loop-file g l = record {
  told : Becomes l.fn.shelf l.shelf;
  order : IsSortedBy stands_before l.tables.items;
  read : IsLevelRead (λ number image. (r : g.row.S-Receipt.Denot) × g.S.Shelf.is_of g.N.Naming.place r × (g.S.Receipt.TableReceipt.number r ≡ number) × (g.S.Receipt.TableReceipt.image r ≡ image))
      l.last (take l.file-index l.files) l.tables.items l.sequences.items;
}
