use Rattle.std.proofs.Common.{refl}
use Rattle.lsm_shelf.specs.Stored.{Stored}
use Rattle.lsm_opening.proofs.ReadingLaws.{halted_with, lacking_reads, opening_reads}
use Rattle.lsm_opening.proofs.ReadingLaws.{reads_none, refusal_reads}
use Rattle.lsm_opening.proofs.reading.open_to_read.Goals as goal

pub returns-in_err-parts-clause-reads : goal.returns-in_err-parts-clause-reads
returns-in_err-parts-clause-reads g c = reads_none _ _ refl

pub returns-in_err-manifest-clause-reads : goal.returns-in_err-manifest-clause-reads
returns-in_err-manifest-clause-reads g c =
    lacking_reads (g.S.Shelf.refuses g.N.Naming.place) _ _ _
    c.in_err-manifest.ensures.refused

pub returns-in-Ok-clause-opened : goal.returns-in-Ok-clause-opened
returns-in-Ok-clause-opened g c = record {
  mid = _;
  manifest = c.in_ok-manifest.ensures.found;
  opened = halted_with g.S.Shelf.honest _ _ c.in-Ok.state _ _ c.in_ok-parts.ensures.options
      c.in-Ok.ensures.opened;
}

pub returns-in-Ok-clause-reads : goal.returns-in-Ok-clause-reads
returns-in-Ok-clause-reads g c =
    opening_reads g.S.Shelf.honest _ _ c.in-Ok.state _ _ _ c.in_ok-manifest.ensures.found
    c.in-Ok.ensures.opened

pub returns-in-Err-clause-reads : goal.returns-in-Err-clause-reads
returns-in-Err-clause-reads g c =
    refusal_reads
    (Stored g.row.S-Receipt.Denot (g.S.Shelf.is_of g.N.Naming.place)
    g.S.Receipt.TableReceipt.number g.S.Receipt.TableReceipt.image)
    (g.S.Shelf.refuses g.N.Naming.place) g.S.Shelf.honest _ c.in-Err.fault _ _ _
    c.in_ok-manifest.ensures.found c.in-Err.ensures.refused
