use Rattle.std.proofs.lemmas.Result.{err_from_is_err_and}
use Rattle.lsm_shelf.proofs.CallerLemmas.{becomes_same, becomes_then}
use Rattle.lsm_shelf.specs.Stored.{Stored}
use Rattle.lsm_repair.proofs.ReadLaws.{read_all, read_more, read_none, unread_among}
use Rattle.lsm_repair.proofs.reading.read_tables.Goals as goal

pub loop-number-init : goal.loop-number-init
loop-number-init g c = record {
  read = rw (c.new-entries.ensures.items, c.new-left.ensures.items) (read_none
      (Stored g.row.S-Receipt.Denot (g.S.Shelf.is_of g.N.Naming.place)
      g.S.Receipt.TableReceipt.number g.S.Receipt.TableReceipt.image));
  told = becomes_same _;
}

pub loop-number-preserved : goal.loop-number-preserved
loop-number-preserved g c = record {
  read = read_more (Stored g.row.S-Receipt.Denot (g.S.Shelf.is_of g.N.Naming.place)
      g.S.Receipt.TableReceipt.number g.S.Receipt.TableReceipt.image) c.args.numbers.now
      c.loop-number.number-index c.loop-number.entries.items c.read_table.new.entries.items
      c.loop-number.left.items
      c.read_table.new.left.items c.loop-number-test.true c.loop-number.invariant.read
      c.in_ok-read_table.ensures.read;
  told = becomes_then _ _ _ c.loop-number.invariant.told c.read_table.ensures.told;
}

pub returns-clause-read : goal.returns-clause-read
returns-clause-read g c =
    read_all (Stored g.row.S-Receipt.Denot (g.S.Shelf.is_of g.N.Naming.place)
    g.S.Receipt.TableReceipt.number g.S.Receipt.TableReceipt.image) c.args.numbers.now
    c.loop-number.number-index c.loop-number.entries.items c.loop-number.left.items
    c.loop-number-test.false
    c.loop-number.invariant.read

pub returns-in_err-read_table-clause-refused : goal.returns-in_err-read_table-clause-refused
returns-in_err-read_table-clause-refused g c =
    let p = err_from_is_err_and c.from_residual.result c.from_residual.ensures.1 in
    rw (p.1, p.2) (unread_among (g.S.Shelf.refuses g.N.Naming.place) c.args.numbers.now
    c.loop-number.number-index _ c.loop-number-test.true c.in_err-read_table.ensures.refused)
