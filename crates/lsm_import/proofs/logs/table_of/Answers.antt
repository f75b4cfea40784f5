use Rattle.std.proofs.Common.{Ok, Err, inr}
use Rattle.std.proofs.lemmas.Result.{err_from_is_err_and}
use Rattle.lsm_batch.specs.Batches.{entries_from}
use Rattle.lsm_import.specs.LogTable.{NoneRefuses}
use Rattle.lsm_import.proofs.LogLaws.{file_fits, table_refused}
use Rattle.lsm_import.proofs.logs.table_of.Goals as goal

pub returns-clause-fits : goal.returns-clause-fits
returns-clause-fits c =
    let i = c.in_ok-image.image in
    let parts = c.into_parts-smallest in
    let file = c.in_ok-file.ensures in
    file_fits (entries_from c.args.first c.args.batch.now) i.smallest i.largest i.bytes
    parts.result.0 parts.result.1 (Ok c.in_ok-file.file) c.in_ok-image.ensures.image
    parts.ensures.smallest parts.ensures.largest file.level file.smallest file.largest file.short

pub returns-in_err-file-clause-refused : goal.returns-in_err-file-clause-refused
returns-in_err-file-clause-refused c =
    let p = err_from_is_err_and c.from_residual-in_err-file.result
    c.from_residual-in_err-file.ensures.1 in
    let i = c.in_ok-image.image in
    let parts = c.into_parts-smallest in
    rw (p.1, p.2) (table_refused NoneRefuses c.args.options
    (entries_from c.args.first c.args.batch.now) c.args.number i.smallest i.largest i.bytes
    parts.result.0 parts.result.1 (Err c.in_err-file.field-0.0) c.in_ok-image.ensures.image
    parts.ensures.smallest parts.ensures.largest (inr c.in_err-file.ensures.long))
