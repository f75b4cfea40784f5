use Rattle.std.proofs.Common.{◌≡◌, ℕ, List, Result, Ok, sym, ◌∙◌, subst}
use Rattle.std.proofs.lemmas.Result.{err_from_is_err_and}
use Rattle.lsm_codec.specs.Entries.{Entry}
use Rattle.lsm_table.specs.declared.table_fault.TableFault.{TableFault}
use Rattle.lsm_table.specs.Reading.{Fails}
use Rattle.lsm_table.specs.HeldTable.{HeldTable, entries_in}
use Rattle.lsm_table.specs.TableReading.{table_at}
use Rattle.lsm_table.proofs.TableLaws.{table_again}
use Rattle.lsm_table.proofs.table.Table.check.Goals as goal

pub invariant_of-result : goal.invariant_of-result
invariant_of-result c = subst (λ (xs : List ℕ). HeldTable xs c.in_ok-index.index) c.deref.ensures.value c.in_ok-index.ensures.held

pub returns-clause-found : goal.returns-clause-found
returns-clause-found c = (subst (λ (xs : List ℕ). HeldTable xs c.in_ok-index.index) c.deref.ensures.value c.in_ok-index.ensures.held).table

pub returns-clause-exact : goal.returns-clause-exact
returns-clause-exact c = let read : table_at c.deref.result.now ≡ Ok (entries_in c.deref.result.now) = c.in_ok-index.ensures.exact in subst (λ (xs : List ℕ). table_at xs ≡ Ok (entries_in xs)) c.deref.ensures.value read

pub returns-clause-only : goal.returns-clause-only
returns-clause-only c es t =
    let read : table_at c.deref.result.now ≡ Ok (entries_in c.deref.result.now) = c.in_ok-index.ensures.exact in
    sym (table_again c.args.file.items es t) ∙ subst (λ (xs : List ℕ). table_at xs ≡ Ok (entries_in xs)) c.deref.ensures.value read

pub returns-in_err-index-clause-only : goal.returns-in_err-index-clause-only
returns-in_err-index-clause-only c es t =
    let p = err_from_is_err_and c.from_residual.result c.from_residual.ensures.1 in
    rw (p.1, p.2) (subst (λ (r : Result (List Entry) TableFault). Fails c.in_err-index.field-0.0 r) (table_again c.args.file.items es t)
    (subst (λ (xs : List ℕ). Fails c.in_err-index.field-0.0 (table_at xs)) c.deref.ensures.value c.in_err-index.ensures.exact))
