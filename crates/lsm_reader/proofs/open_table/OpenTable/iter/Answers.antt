use Rattle.std.proofs.Common.{ℕ, List, sym, subst}
use Rattle.lsm_table.specs.Table.{IsTable}
use Rattle.lsm_table.proofs.CallerLemmas.{opened_names}
use Rattle.lsm_reader.proofs.open_table.OpenTable.iter.Goals as goal

pub over-requires-clause-table : goal.over-requires-clause-table
over-requires-clause-table g c κs within honest =
    let t = c.requires.table honest in
    (t.0, opened_names (g.S.Receipt.TableReceipt.image c.self.inside.receipt) t.0 _ (subst (λ (x : List ℕ). IsTable x t.0) (sym c.self.view_is) t.1) (c.self.invariant.1 honest))

pub returns-clause-left : goal.returns-clause-left
returns-clause-left g c honest es t =
    c.over.ensures.left es (opened_names (g.S.Receipt.TableReceipt.image c.self.inside.receipt) es _ (subst (λ (x : List ℕ). IsTable x es) (sym c.self.view_is) t) (c.self.invariant.1 honest))
