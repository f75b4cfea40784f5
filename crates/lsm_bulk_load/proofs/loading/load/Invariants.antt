use Rattle.std.proofs.Common.{◌*◌, ◌^◌, ◌≤◌}
use Rattle.lsm_bulk_load.specs.Keeping.{IsOfLines}
use Rattle.lsm_bulk_load.specs.Loading.{IsToldOfBatches, Loads}
use Rattle.lsm_bulk_load.proofs.LoadLaws.{SameForm}
use Rattle.lsm_bulk_load.proofs.loading.load.Given as goal

abbrev pub invariant-batches : goal.invariant-batches
invariant-batches g l = record {
  loads : Loads l.fn.lines l.lines.left l.lines.held l.fn.mark l.mark l.progress;
  form : SameForm l.lines l.fn.lines;
  lines : l.progress.lines ≤ l._turn * 2 ^ 64;
  count : l.progress.batches ≤ l._turn;
  told : IsToldOfBatches (g.S.Shelf.refuses g.N.Naming.place) g.O.Origin.keeps (IsOfLines l.fn.lines) l.fn.shelf l.shelf;
}
