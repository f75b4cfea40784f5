use Rattle.std.proofs.Common.{subst, arith}
use Rattle.std.proofs.lemmas.Result.{err_from_is_err_and}
use Rattle.lsm_table.specs.declared.table_options.TableOptions.{TableOptions}
use Rattle.lsm_inflate.specs.Filling.{plain_bytes}
use Rattle.lsm_inflate.specs.Reading.{Gives}
use Rattle.lsm_inflate.specs.PackedReading.{finished_at}
use Rattle.lsm_inflate.proofs.AnswerLaws.{found_from, only_read, only_refused, exact_read, exact_refused}
use Rattle.lsm_inflate.proofs.packed_file.inflate.Goals as goal

pub returns-in_err-table-clause-only : goal.returns-in_err-table-clause-only
returns-in_err-table-clause-only c es t =
    let p = err_from_is_err_and c.from_residual.result c.from_residual.ensures.1 in
    rw (p.1, p.2) (only_refused c.args.options c.args.file.now es c.in_err-table.field-0.0 (λ i. omega (arith, c.type_inv.file i)) c.in_err-table.ensures.entries t)

pub returns-in_err-table-clause-exact : goal.returns-in_err-table-clause-exact
returns-in_err-table-clause-exact c =
    let p = err_from_is_err_and c.from_residual.result c.from_residual.ensures.1 in
    rw (p.1, p.2) (exact_refused c.args.options c.args.file.now c.in_err-table.field-0.0 c.in_err-table.ensures.entries)

pub returns-clause-found : goal.returns-clause-found
returns-clause-found c =
    found_from c.args.options c.args.file.now c.in_ok-table.table.entries c.finish.result (λ i. omega (arith, c.type_inv.file i)) c.in_ok-table.ensures.entries c.finish.ensures.plain

pub returns-clause-only : goal.returns-clause-only
returns-clause-only c es t =
    let made = c.in_ok-table.table.entries in
    let bytes = subst (λ (o : TableOptions). Gives plain_bytes c.finish.result (finished_at o made)) c.in_ok-table.ensures.options c.finish.ensures.bytes in
    only_read c.args.options c.args.file.now made es c.finish.result (λ i. omega (arith, c.type_inv.file i)) c.in_ok-table.ensures.entries t c.finish.ensures.plain bytes

pub returns-clause-exact : goal.returns-clause-exact
returns-clause-exact c =
    let made = c.in_ok-table.table.entries in
    let bytes = subst (λ (o : TableOptions). Gives plain_bytes c.finish.result (finished_at o made)) c.in_ok-table.ensures.options c.finish.ensures.bytes in
    exact_read c.args.options c.args.file.now made c.finish.result c.in_ok-table.ensures.entries bytes
