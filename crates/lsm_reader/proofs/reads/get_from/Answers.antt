use Rattle.std.proofs.lemmas.Result.{err_from_is_err_and}
use Rattle.lsm_codec.specs.KeyRef.{key_of}
use Rattle.lsm_table.specs.Footer.{body_of}
use Rattle.lsm_table.specs.Found.{seen}
use Rattle.lsm_reader.specs.Blocks.{or_none}
use Rattle.lsm_reader.proofs.CursorLaws.{cursor_found}
use Rattle.lsm_reader.proofs.GettingLaws.{got_fails, got_said}
use Rattle.lsm_reader.proofs.reads.get_from.Goals as goal

pub returns-in_err-here-clause-exact : goal.returns-in_err-here-clause-exact
returns-in_err-here-clause-exact g c honest =
    let p = err_from_is_err_and c.from_residual.result c.from_residual.ensures.1 in
    rw (p.1, p.2) (got_fails or_none seen c.in_err-here.field-0.0 (key_of c.key_for-key.result)
    (body_of (g.S.Receipt.TableReceipt.image c.args.receipt.now)) c.args.user.now c.args.seq _
    c.key_for-key.ensures (c.in_err-here.ensures.exact honest))

pub returns-clause-exact : goal.returns-clause-exact
returns-clause-exact g c honest =
    got_said (key_of c.key_for-key.result)
    (body_of (g.S.Receipt.TableReceipt.image c.args.receipt.now)) c.args.user.now c.args.seq _
    (or_none c.in_ok-here.here) _ c.key_for-key.ensures (c.in_ok-here.ensures.exact honest)
    c.in_ok-found_at.ensures.found

pub returns-clause-found : goal.returns-clause-found
returns-clause-found g c honest es names =
    let at = c.in_ok-here.ensures.found honest es names in
    cursor_found c.args.user.now c.args.seq (key_of c.key_for-key.result)
    (g.S.Receipt.TableReceipt.image c.args.receipt.now) _ es
    (record { here = or_none c.in_ok-here.here; index = at.0 }) _ c.key_for-key.ensures names at.2
    at.1 c.in_ok-found_at.ensures.found

pub returns-in_err-here-clause-sound : goal.returns-in_err-here-clause-sound
returns-in_err-here-clause-sound g c honest es names =
    let p = err_from_is_err_and c.from_residual.result c.from_residual.ensures.1 in
    rw (p.1, p.2) (c.in_err-here.ensures.sound honest es names)
