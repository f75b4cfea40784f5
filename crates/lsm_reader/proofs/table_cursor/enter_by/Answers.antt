use Rattle.std.proofs.Common.{Global, ◌∷◌, List, sym, ◌∙◌}
use Rattle.std.proofs.lemmas.Result.{err_from_is_err_and}
use Rattle.std.specs.Arc.{arc_value}
use Rattle.lsm_codec.specs.Entries.{Entry}
use Rattle.lsm_block.specs.Held.{HeldBlock}
use Rattle.lsm_table.specs.Footer.{body_of}
use Rattle.lsm_table.proofs.CallerLemmas.{named_there}
use Rattle.lsm_reader.proofs.CursorLaws.{named_sound, some_not_end}
use Rattle.lsm_reader.proofs.GettingLaws.{entered_fails, entered_none, entered_some}
use Rattle.lsm_reader.proofs.table_cursor.enter_by.Goals as goal

pub returns-in_err-block-clause-sound : goal.returns-in_err-block-clause-sound
returns-in_err-block-clause-sound g c honest e es d =
    let p = err_from_is_err_and c.from_residual.result c.from_residual.ensures.1 in
    rw (p.1, p.2) (named_sound (λ b. (arc_value {X = HeldBlock} {Z = Global} b).entries) c.in_err-block.field-0.0 (body_of (g.S.Receipt.TableReceipt.image c.args.receipt.now)) c.args.spelled.now (e ∷ es) d (c.in_err-block.ensures.exact honest))

pub returns-then-is_at_end-clause-sound : goal.returns-then-is_at_end-clause-sound
returns-then-is_at_end-clause-sound g c honest e es d =
    some_not_end e es c.in_ok-entries.entries (c.in_ok-entries.ensures ∙ named_there (body_of (g.S.Receipt.TableReceipt.image c.args.receipt.now)) c.args.spelled.now _ (e ∷ es) (c.in_ok-block.ensures.exact honest) d) (sym c.is_at_end.ensures ∙ c.if-is_at_end.true)

pub returns-clause-found : goal.returns-clause-found
returns-clause-found g c honest e es d =
    c.in_ok-entries.ensures ∙ named_there (body_of (g.S.Receipt.TableReceipt.image c.args.receipt.now)) c.args.spelled.now _ (e ∷ es) (c.in_ok-block.ensures.exact honest) d

pub returns-in_err-block-clause-exact : goal.returns-in_err-block-clause-exact
returns-in_err-block-clause-exact g c honest =
    let p = err_from_is_err_and c.from_residual.result c.from_residual.ensures.1 in
    rw (p.1, p.2) (entered_fails (λ b. (arc_value {X = HeldBlock} {Z = Global} b).entries) (λ (es : List Entry). es) c.in_err-block.field-0.0 (body_of (g.S.Receipt.TableReceipt.image c.args.receipt.now)) c.args.spelled.now (c.in_err-block.ensures.exact honest))

pub returns-then-is_at_end-clause-exact : goal.returns-then-is_at_end-clause-exact
returns-then-is_at_end-clause-exact g c honest =
    entered_none (body_of (g.S.Receipt.TableReceipt.image c.args.receipt.now)) c.args.spelled.now _ c.in_ok-entries.entries (c.in_ok-block.ensures.exact honest) c.in_ok-entries.ensures (sym c.is_at_end.ensures ∙ c.if-is_at_end.true)

pub returns-clause-exact : goal.returns-clause-exact
returns-clause-exact g c honest =
    entered_some (body_of (g.S.Receipt.TableReceipt.image c.args.receipt.now)) c.args.spelled.now _ c.in_ok-entries.entries (c.in_ok-block.ensures.exact honest) c.in_ok-entries.ensures (sym c.is_at_end.ensures ∙ c.if-is_at_end.false)
