use Rattle.std.proofs.Common.{List, sym, subst}
use Rattle.std.proofs.lemmas.Result.{err_from_is_err_and}
use Rattle.lsm_codec.specs.Entries.{Entry}
use Rattle.lsm_codec.specs.KeyRef.{key_of}
use Rattle.lsm_reader.specs.Blocks.{IsSought}
use Rattle.lsm_reader.proofs.table_cursor.seek_next_by.Goals as goal

pub returns-in_err-entries-clause-sound : goal.returns-in_err-entries-clause-sound
returns-in_err-entries-clause-sound g c honest es s =
    let p = err_from_is_err_and c.from_residual.result c.from_residual.ensures.1 in
    rw (p.1, p.2) (c.in_err-entries.ensures.sound honest es s)

pub returns-in_err-entries-clause-exact : goal.returns-in_err-entries-clause-exact
returns-in_err-entries-clause-exact g c honest =
    let p = err_from_is_err_and c.from_residual.result c.from_residual.ensures.1 in
    rw (p.1, p.2) (c.in_err-entries.ensures.exact honest)

pub returns-clause-found : goal.returns-clause-found
returns-clause-found g c honest es s =
    let image = g.S.Receipt.TableReceipt.image c.args.receipt.now in
    let key = key_of c.args.key.now in
    subst (λ (xs : List Entry). IsSought key image c.in_ok-entries.entries xs es)
    (sym c.in_ok-pass.ensures.ok) (c.in_ok-entries.ensures.found honest es s)
