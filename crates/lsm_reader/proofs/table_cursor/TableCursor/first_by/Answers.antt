use Rattle.std.proofs.Common.{List, Result, Err, sym, ap, ◌∙◌, subst}
use Rattle.std.proofs.lemmas.Result.{err_from_is_err_and}
use Rattle.lsm_codec.specs.Entries.{Entry}
use Rattle.lsm_table.specs.declared.table_fault.TableFault.{TableFault}
use Rattle.lsm_table.specs.Footer.{body_of}
use Rattle.lsm_table.specs.HeldTable.{Names}
use Rattle.lsm_table.proofs.CallerLemmas.{names_all}
use Rattle.lsm_reader.specs.Blocks.{Reads, Rest, or_none}
use Rattle.lsm_reader.specs.Getting.{first_entered}
use Rattle.lsm_reader.proofs.GettingLaws.{fails_as}
use Rattle.lsm_reader.proofs.table_cursor.TableCursor.first_by.Goals as goal

pub returns-in_err-here-clause-sound : goal.returns-in_err-here-clause-sound
returns-in_err-here-clause-sound g c honest es n =
    let p = err_from_is_err_and c.from_residual-in_err-here.result c.from_residual-in_err-here.ensures.1 in
    rw (p.1, p.2) (c.in_err-here.ensures.sound honest (es, subst (λ (xs : List Entry). Names (body_of (g.S.Receipt.TableReceipt.image c.args.receipt.now)) xs es) (sym c.in_ok-places.ensures) n))

pub returns-in_err-here-clause-exact : goal.returns-in_err-here-clause-exact
returns-in_err-here-clause-exact g c honest =
    let body = body_of (g.S.Receipt.TableReceipt.image c.args.receipt.now) in
    let p = err_from_is_err_and c.from_residual-in_err-here.result c.from_residual-in_err-here.ensures.1 in
    rw (p.1, p.2) (fails_as or_none (λ (r : Rest). r.here) c.in_err-here.field-0.0 _ (subst (λ (x : Result (List Entry) TableFault). Reads or_none (Err c.in_err-here.field-0.0) x) (ap (first_entered body) c.in_ok-places.ensures) (c.in_err-here.ensures.exact honest)))

pub returns-clause-found : goal.returns-clause-found
returns-clause-found g c honest es n =
    let body = body_of (g.S.Receipt.TableReceipt.image c.args.receipt.now) in
    let names = subst (λ (xs : List Entry). Names body xs es) (sym c.in_ok-places.ensures) n in
    let e = c.in_ok-here.ensures.entered honest (es, names) in
    (e.0, e.1 ∙ names_all body c.in_ok-places.places es names)

pub returns-clause-exact : goal.returns-clause-exact
returns-clause-exact g c honest =
    sym (ap (first_entered (body_of (g.S.Receipt.TableReceipt.image c.args.receipt.now))) c.in_ok-places.ensures) ∙ c.in_ok-here.ensures.exact honest
