use Rattle.std.proofs.Common.{sym, ◌∙◌}
use Rattle.std.proofs.lemmas.Result.{err_from_is_err_and}
use Rattle.lsm_reader.proofs.BlocksLaws.{outside, tested, there_is, there_fails}
use Rattle.lsm_reader.proofs.shelf_reads.NamedShelfBlocks.block_ahead.Goals as goal

pub returns-then-not-is_inside-clause-exact : goal.returns-then-not-is_inside-clause-exact
returns-then-not-is_inside-clause-exact g c honest =
    let image = g.S.Receipt.TableReceipt.image c.args.receipt.now in
    outside image _ (tested image _ c.size.result _ c.size.ensures.size (sym c.if-not-is_inside.true ∙ c.is_inside.ensures))

pub returns-clause-exact : goal.returns-clause-exact
returns-clause-exact g c honest =
    there_is (g.S.Receipt.TableReceipt.image c.args.receipt.now) c.in_ok-text.text.items _ c.size.result _ c.size.ensures.size (sym c.if-not-is_inside.false ∙ c.is_inside.ensures) (c.in_ok-text.ensures.bytes honest) c.in_ok-judge.ensures

pub returns-in_err-judge-clause-exact : goal.returns-in_err-judge-clause-exact
returns-in_err-judge-clause-exact g c honest =
    let p = err_from_is_err_and c.from_residual-in_err-judge.result c.from_residual-in_err-judge.ensures.1 in
    rw (p.1, p.2) (there_fails (g.S.Receipt.TableReceipt.image c.args.receipt.now) c.in_ok-text.text.items _ c.size.result _ c.size.ensures.size (sym c.if-not-is_inside.false ∙ c.is_inside.ensures) (c.in_ok-text.ensures.bytes honest) c.in_err-judge.ensures)
