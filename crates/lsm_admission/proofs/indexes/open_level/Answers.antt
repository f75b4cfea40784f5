use Rattle.std.proofs.Common.{◌≡◌, ℕ, List, take, length, refl, sym, subst}
use Rattle.std.proofs.lemmas.Result.{err_from_is_err_and}
use Rattle.lsm_table.proofs.CallerLemmas.{becomes_same, becomes_then}
use Rattle.lsm_admission.proofs.IndexLaws.{table_more, table_refused}
use Rattle.lsm_admission.proofs.indexes.open_level.Goals as goal

pub loop-table-init : goal.loop-table-init
loop-table-init g c = record { told = becomes_same _; opened = λ honest t h. absurd h }

pub returns-in_err-open_index-clause-refused : goal.returns-in_err-open_index-clause-refused
returns-in_err-open_index-clause-refused g c =
    let p = err_from_is_err_and c.from_residual.result c.from_residual.ensures.1 in
    rw (p.1, p.2) (table_refused (g.S.Shelf.refuses g.N.Naming.place) g.S.Shelf.honest
    c.args.level.now c.loop-table.table-index c.table-item.result c.in_err-open_index.field-0.0
    c.loop-table-test.true c.table-item.is c.loop-table.invariant.opened
    c.in_err-open_index.ensures.refused)

pub loop-table-preserved : goal.loop-table-preserved
loop-table-preserved g c = record {
  told = becomes_then _ _ _ c.loop-table.invariant.told c.open_index.ensures.told;
  opened = λ honest. table_more c.args.level.now c.loop-table.table-index c.table-item.result
      c.loop-table-test.true c.table-item.is (c.loop-table.invariant.opened honest)
      (c.in_ok-open_index.ensures.opened honest);
}
