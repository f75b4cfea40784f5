use Rattle.std.proofs.Common.{◌≡◌, ℕ, List, [], ◌∷◌, ◌++◌, ◌∙◌, refl, ap, sym, subst}
use Rattle.lsm_table.specs.Registry.{Table}
use Rattle.lsm_table.specs.Table.{IsTable}
use Rattle.lsm_table.specs.HeldTable.{entries_in}
use Rattle.lsm_table.specs.TableBuilding.{table_bytes}
use Rattle.lsm_shelf.proofs.CallerLemmas.{becomes_same}
use Rattle.lsm_merge.proofs.PutBefore.{one_none, perhaps_one}
use Rattle.lsm_merge.proofs.PutLaws.{err_if, tables_once, whole_of}
use Rattle.lsm_merge.proofs.putting.put_output.Goals as goal

pub returns-clause-ok : goal.returns-clause-ok
returns-clause-ok g c =
    let made = c.in-Ok.ensures.image in
    let ens = c.in_ok-table.ensures in
    let same : entries_in c.in_ok-table.table.image ≡ c.args.output.entries =
    c.entries_are.ensures.same c.in_ok-table.table.image c.args.output.entries
    (subst (λ (bytes : List ℕ). IsTable bytes c.args.output.entries) (sym ens.image) made.table) in
    record {
      table = c.in_ok-table.table;
      whole = whole_of c.tables_are_whole.ensures c.in_ok-table.table c.args.output.entries c.in-Ok.image.smallest c.in-Ok.image.largest c.in-Ok.image.bytes made ens.smallest ens.largest ens.image;
      entries = same;
      built = ens.image ∙ c.in-Ok.ensures.bytes ∙ ap (table_bytes c.args.output.options) (sym same);
      number = ens.number ∙ c.number-number.ensures;
      tables_are = (let i = c.in-Ok-push.ensures.items in i ∙ ap (λ (l : List Table). l ++ c.in_ok-table.table ∷ []) c.in_ok-reserve.ensures.items);
      put_are = ens.put ∙ ap (λ (n : ℕ). c.args.put.now.items ++ n ∷ []) c.number-number.ensures;
    }

pub returns-clause-tables : goal.returns-clause-tables
returns-clause-tables g c =
    let ens = c.in_ok-table.ensures in
    let i = c.in-Ok-push.ensures.items in
    tables_once c.args.tables.now.items c.push.new.self.items c.in_ok-table.table c.number-number.result c.in-Ok.image.bytes c.args.shelf.now c.put_image.new.shelf
    (i ∙ ap (λ (l : List Table). l ++ c.in_ok-table.table ∷ []) c.in_ok-reserve.ensures.items) ens.number ens.image ens.puts

pub returns-in_err-reserve-clause-stands : goal.returns-in_err-reserve-clause-stands
returns-in_err-reserve-clause-stands g c =
    err_if _ (one_none c.args.output.options c.args.output.entries (Unit {0}) c.args.put.now.items c.args.put.now.items c.args.shelf.now c.args.shelf.now refl (becomes_same c.args.shelf.now))

pub returns-in-Err-clause-stands : goal.returns-in-Err-clause-stands
returns-in-Err-clause-stands g c =
    one_none c.args.output.options c.args.output.entries (Unit {0}) c.args.put.now.items c.args.put.now.items c.args.shelf.now c.args.shelf.now refl (becomes_same c.args.shelf.now)

pub returns-in_err-table-clause-stands : goal.returns-in_err-table-clause-stands
returns-in_err-table-clause-stands g c =
    let made = c.in-Ok.ensures.image in
    let image = c.in-Ok.image in
    err_if _ (perhaps_one c.tables_are_whole.ensures c.args.output.options c.args.output.entries c.number-number.result image.smallest image.largest image.bytes c.args.put.now.items c.put_image.new.put.items c.args.shelf.now c.put_image.new.shelf
    made c.in-Ok.ensures.bytes (c.entries_are.ensures.same image.bytes c.args.output.entries made.table) c.in_err-table.ensures.stands)
