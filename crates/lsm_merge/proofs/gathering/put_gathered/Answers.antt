use Rattle.std.specs.Prelude.{IfErr}
use Rattle.std.proofs.Common.{◌≡◌, ℕ, List, [], sym, ◌∙◌, ap, subst, inl}
use Rattle.lsm_shelf.specs.Told.{Becomes, putting}
use Rattle.lsm_shelf.proofs.CallerLemmas.{becomes_same}
use Rattle.lsm_table.specs.HeldTable.{entries_in}
use Rattle.lsm_table.specs.Table.{IsTable}
use Rattle.lsm_table.specs.TableBuilding.{table_bytes}
use Rattle.lsm_merge.proofs.GatherLaws.{one_why, puts_at_most}
use Rattle.lsm_merge.proofs.PlaceLaws.{err_is}
use Rattle.lsm_merge.proofs.PutLaws.{err_if, whole_of}
use Rattle.lsm_merge.specs.Gathering.{IsOfOneOutput}
use Rattle.lsm_merge.proofs.gathering.put_gathered.Goals as goal

pub returns-clause-whole : goal.returns-clause-whole
returns-clause-whole g c =
    let ens = c.in_ok-table.ensures in
    whole_of c.tables_are_whole.ensures c.in_ok-table.table c.args.output.entries c.in-Ok.image.smallest c.in-Ok.image.largest c.in-Ok.image.bytes c.in-Ok.ensures.image ens.smallest ens.largest ens.image

pub returns-clause-entries : goal.returns-clause-entries
returns-clause-entries g c =
    c.entries_are.ensures.same c.in_ok-table.table.image c.args.output.entries
    (subst (λ (bytes : List ℕ). IsTable bytes c.args.output.entries) (sym c.in_ok-table.ensures.image) (c.in-Ok.ensures.image).table)

pub returns-clause-built : goal.returns-clause-built
returns-clause-built g c =
    let same : entries_in c.in_ok-table.table.image ≡ c.args.output.entries =
    c.entries_are.ensures.same c.in_ok-table.table.image c.args.output.entries
    (subst (λ (bytes : List ℕ). IsTable bytes c.args.output.entries) (sym c.in_ok-table.ensures.image) (c.in-Ok.ensures.image).table) in
    c.in_ok-table.ensures.image ∙ c.in-Ok.ensures.bytes ∙ ap (table_bytes c.args.output.options) (sym same)

pub returns-clause-told : goal.returns-clause-told
returns-clause-told g c =
    subst (λ (n : ℕ). Becomes (putting n c.in_ok-table.table.image c.args.shelf.now) c.put_image.new.shelf) c.number-number.ensures
    (subst (λ (i : List ℕ). Becomes (putting c.number-number.result i c.args.shelf.now) c.put_image.new.shelf) (sym c.in_ok-table.ensures.image) c.in_ok-table.ensures.puts)

pub returns-in-Err-clause-stands : goal.returns-in-Err-clause-stands
returns-in-Err-clause-stands g c = inl (becomes_same c.args.shelf.now)

pub returns-in_err-table-clause-stands : goal.returns-in_err-table-clause-stands
returns-in_err-table-clause-stands g c =
    err_if _ (puts_at_most c.number-number.result c.args.output.number c.args.output.options c.args.output.entries c.in-Ok.image.bytes _ c.put_image.new.put.items c.args.shelf.now c.put_image.new.shelf
    c.number-number.ensures c.in-Ok.ensures.bytes c.in_err-table.ensures.stands)

pub returns-in_err-table-clause-numbers : goal.returns-in_err-table-clause-numbers
returns-in_err-table-clause-numbers g c =
    subst (λ (n : ℕ). IfErr c.from_residual.result (IsOfOneOutput n)) c.number-number.ensures
    (err_is (IsOfOneOutput c.number-number.result) c.from_residual.result c.in_err-table.field-0.0 c.from_residual.ensures.1
    (one_why c.number-number.result c.new-put.result.items c.put_image.new.put.items c.in_err-table.field-0.0 (c.in_err-table.ensures.leaves []) c.in_err-table.ensures.why))
