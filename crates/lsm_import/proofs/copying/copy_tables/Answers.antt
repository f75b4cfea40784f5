use Rattle.std.proofs.Common.{inr}
use Rattle.std.proofs.lemmas.Result.{err_from_is_err_and}
use Rattle.lsm_shelf.proofs.CallerLemmas.{becomes_same, becomes_then}
use Rattle.lsm_shelf.specs.Stored.{Stored}
use Rattle.lsm_import.proofs.CopyLaws.{copies_all, copies_more, copies_none, has_at, puts_none}
use Rattle.lsm_import.proofs.CopyLaws.{puts_then}
use Rattle.lsm_import.proofs.copying.copy_tables.Goals as goal

pub loop-file-init : goal.loop-file-init
loop-file-init g c = record {
  copies = copies_none (Stored g.row.S-Receipt.Denot (g.S.Shelf.is_of g.N.Naming.place)
      g.S.Receipt.TableReceipt.number g.S.Receipt.TableReceipt.image)
      (Stored g.row.T-Receipt.Denot (g.T.Shelf.is_of g.M.Naming.place)
      g.T.Receipt.TableReceipt.number g.T.Receipt.TableReceipt.image)
      c.args.files.now _ c.new-copies.ensures.items;
  read = becomes_same _;
  puts = puts_none _;
}

pub loop-file-preserved : goal.loop-file-preserved
loop-file-preserved g c = record {
  copies = copies_more (Stored g.row.S-Receipt.Denot (g.S.Shelf.is_of g.N.Naming.place)
      g.S.Receipt.TableReceipt.number g.S.Receipt.TableReceipt.image)
      (Stored g.row.T-Receipt.Denot (g.T.Shelf.is_of g.M.Naming.place)
      g.T.Receipt.TableReceipt.number g.T.Receipt.TableReceipt.image)
      c.args.files.now c.loop-file.file-index c.file-item.result c.loop-file.copies.items _
      c.in_ok-copy.copy c.loop-file-test.true c.file-item.is c.loop-file.invariant.copies
      c.in_ok-copy.ensures.copied c.in_ok-push.ensures.items;
  read = becomes_then _ _ _ c.loop-file.invariant.read c.copy_table.ensures.read;
  puts = puts_then _ _ _ c.loop-file.invariant.puts c.copy_table.ensures.puts;
}

pub returns-clause-copied : goal.returns-clause-copied
returns-clause-copied g c =
    copies_all (Stored g.row.S-Receipt.Denot (g.S.Shelf.is_of g.N.Naming.place)
    g.S.Receipt.TableReceipt.number g.S.Receipt.TableReceipt.image)
    (Stored g.row.T-Receipt.Denot (g.T.Shelf.is_of g.M.Naming.place) g.T.Receipt.TableReceipt.number
    g.T.Receipt.TableReceipt.image)
    c.args.files.now c.loop-file.file-index c.loop-file.copies.items c.loop-file-test.false
    c.loop-file.invariant.copies

pub returns-in_err-copy-clause-refused : goal.returns-in_err-copy-clause-refused
returns-in_err-copy-clause-refused g c =
    let p = err_from_is_err_and c.from_residual.result c.from_residual.ensures.1 in
    rw (p.1, p.2) (inr (
      c.file-item.result,
      has_at c.args.files.now c.loop-file.file-index
          c.file-item.result c.loop-file-test.true c.file-item.is,
      c.in_err-copy.ensures.refused,
    ))
