use Rattle.std.proofs.Common.{inr}
use Rattle.std.proofs.lemmas.Result.{err_from_is_err_and}
use Rattle.lsm_shelf.proofs.CallerLemmas.{becomes_same, becomes_then}
use Rattle.lsm_shelf.specs.Stored.{Stored}
use Rattle.lsm_preview.proofs.TableLaws.{has_at, plain_all, plain_more, plain_none}
use Rattle.lsm_preview.proofs.tables.plain_files.Goals as goal

pub loop-file-init : goal.loop-file-init
loop-file-init g c = record {
  plain = plain_none (Stored g.row.S-Receipt.Denot (g.S.Shelf.is_of g.N.Naming.place)
      g.S.Receipt.TableReceipt.number g.S.Receipt.TableReceipt.image)
      c.args.files.now _ c.new-shown.ensures.items;
  read = becomes_same _;
}

pub loop-file-preserved : goal.loop-file-preserved
loop-file-preserved g c = record {
  plain = plain_more (Stored g.row.S-Receipt.Denot (g.S.Shelf.is_of g.N.Naming.place)
      g.S.Receipt.TableReceipt.number g.S.Receipt.TableReceipt.image)
      c.args.files.now c.loop-file.file-index c.file-item.result c.loop-file.shown.items _
      c.in_ok-plain.plain c.loop-file-test.true c.file-item.is c.loop-file.invariant.plain
      c.in_ok-plain.ensures.plain c.in_ok-push.ensures.items;
  read = becomes_then _ _ _ c.loop-file.invariant.read c.plain_file.ensures.read;
}

pub returns-clause-plain : goal.returns-clause-plain
returns-clause-plain g c =
    plain_all (Stored g.row.S-Receipt.Denot (g.S.Shelf.is_of g.N.Naming.place)
    g.S.Receipt.TableReceipt.number g.S.Receipt.TableReceipt.image)
    c.args.files.now c.loop-file.file-index c.loop-file.shown.items c.loop-file-test.false
    c.loop-file.invariant.plain

pub returns-in_err-plain-clause-refused : goal.returns-in_err-plain-clause-refused
returns-in_err-plain-clause-refused g c =
    let p = err_from_is_err_and c.from_residual.result c.from_residual.ensures.1 in
    rw (p.1, p.2) (inr (
      c.file-item.result,
      has_at c.args.files.now c.loop-file.file-index c.file-item.result c.loop-file-test.true
          c.file-item.is,
      c.in_err-plain.ensures.refused,
    ))
