use Rattle.std.proofs.Common.{List, Result, sym, ◌∙◌, subst}
use Rattle.std.proofs.lemmas.Result.{err_from_is_err_and}
use Rattle.lsm_codec.specs.Entries.{Entry}
use Rattle.lsm_table.specs.declared.table_fault.TableFault.{TableFault}
use Rattle.std.specs.Arc.{arc_value}
use Rattle.lsm_block.specs.Held.{HeldBlock}
use Rattle.lsm_reader.specs.Blocks.{Reads}
use Rattle.lsm_reader.proofs.OpeningLaws.{named_fault, named_longer, named_stored}
use Rattle.lsm_reader.proofs.opening.data_block_by.Goals as goal

pub returns-in_err-handle-clause-exact : goal.returns-in_err-handle-clause-exact
returns-in_err-handle-clause-exact g c honest =
    let p = err_from_is_err_and c.from_residual.result c.from_residual.ensures.1 in
    rw (p.1, p.2) (named_fault c.in_err-handle.field-0.0 (g.S.Receipt.TableReceipt.image c.args.receipt.now) c.args.spelled.now c.in_err-handle.ensures)

pub returns-then-not-is_empty-clause-exact : goal.returns-then-not-is_empty-clause-exact
returns-then-not-is_empty-clause-exact g c honest =
    named_longer (g.S.Receipt.TableReceipt.image c.args.receipt.now) c.args.spelled.now c.in_ok-handle.rest.now c.in_ok-handle.handle c.in_ok-handle.ensures (sym c.is_empty.ensures ∙ c.if-not-is_empty.true)

pub returns-clause-exact : goal.returns-clause-exact
returns-clause-exact g c honest =
    let same = named_stored (g.S.Receipt.TableReceipt.image c.args.receipt.now) c.args.spelled.now c.in_ok-handle.rest.now c.in_ok-handle.handle c.in_ok-handle.ensures (sym c.is_empty.ensures ∙ c.if-not-is_empty.false) in
    subst (λ (r : Result (List Entry) TableFault).
    Reads (λ b. (arc_value {X = HeldBlock} b).entries) c.block_ahead.result r) (sym same)
    (c.block_ahead.ensures.exact honest)
