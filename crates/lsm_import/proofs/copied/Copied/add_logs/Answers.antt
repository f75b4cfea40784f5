use Rattle.std.proofs.lemmas.Result.{err_from_is_err_and}
use Rattle.lsm_shelf.specs.Stored.{Stored}
use Rattle.lsm_import.specs.LogTable.{IsMade}
use Rattle.lsm_import.proofs.LogLaws.{logs_into, logs_refused, table_unput}
use Rattle.lsm_import.proofs.copied.Copied.add_logs.Goals as goal

pub returns-clause-logs : goal.returns-clause-logs
returns-clause-logs g c =
    logs_into (IsMade c.in_ok-copied.table) (Stored g.row.T-Receipt.Denot
    (g.T.Shelf.is_of g.M.Naming.place) g.T.Receipt.TableReceipt.number
    g.T.Receipt.TableReceipt.image)
    c.in_ok-put_table.ensures.put c.args.logs c.args.self c.in_ok-copied.copied
    c.in_ok-copied.ensures.logs

pub returns-in_err-copied-clause-refused : goal.returns-in_err-copied-clause-refused
returns-in_err-copied-clause-refused g c =
    let p = err_from_is_err_and c.from_residual.result c.from_residual.ensures.1 in
    rw (p.1, p.2) (logs_refused (g.T.Shelf.refuses g.M.Naming.place) c.args.options c.args.logs
    c.args.self _ c.in_err-copied.ensures.refused)

pub returns-in_err-put_table-clause-refused : goal.returns-in_err-put_table-clause-refused
returns-in_err-put_table-clause-refused g c =
    let p = err_from_is_err_and c.from_residual-in_err-put_table.result
    c.from_residual-in_err-put_table.ensures.1 in
    rw (p.1, p.2) (table_unput (g.T.Shelf.refuses g.M.Naming.place) c.args.options c.args.logs
    c.args.self c.in_ok-copied.copied c.in_ok-copied.table _ c.in_ok-copied.ensures.logs
    c.in_ok-copied.ensures.none c.in_err-put_table.ensures.refused)
