use Rattle.std.proofs.Common.{◌≡◌, ◌∷◌, ℕ, List, false, refl, sym, ◌∙◌, subst}
use Rattle.std.proofs.lemmas.Result.{err_from_is_err_and}
use Rattle.lsm_codec.specs.Entries.{Entry}
use Rattle.lsm_block.specs.Standing.{is_end}
use Rattle.lsm_table.specs.Footer.{body_of}
use Rattle.lsm_table.specs.Table.{DataBlock}
use Rattle.lsm_reader.specs.Blocks.{or_none}
use Rattle.lsm_reader.proofs.CursorLaws.{next_named, entered}
use Rattle.lsm_reader.proofs.GettingLaws.{first_fails, first_is, first_is_end}
use Rattle.lsm_reader.proofs.table_cursor.enter_next_by.Goals as goal

pub returns-in_err-entries-clause-sound : goal.returns-in_err-entries-clause-sound
returns-in_err-entries-clause-sound g c honest nm =
    let p = err_from_is_err_and c.from_residual.result c.from_residual.ensures.1 in
    rw (p.1, p.2) (let image = g.S.Receipt.TableReceipt.image c.args.receipt.now in
    let index = c.args.index.now in
    let some : is_end index ≡ false = sym c.is_at_end.ensures ∙ c.if-is_at_end.false in
    let n = next_named image index some nm in
    c.in_err-entries.ensures.sound honest n.first n.others (subst (λ (p : List ℕ). DataBlock (body_of image) p (n.first ∷ n.others)) (sym c.value.ensures) n.block))

pub returns-clause-entered : goal.returns-clause-entered
returns-clause-entered g c honest nm =
    let image = g.S.Receipt.TableReceipt.image c.args.receipt.now in
    let index = c.args.index.now in
    let some : is_end index ≡ false = sym c.is_at_end.ensures ∙ c.if-is_at_end.false in
    let n = next_named image index some nm in
    let block = subst (λ (p : List ℕ). DataBlock (body_of image) p (n.first ∷ n.others)) (sym c.value.ensures) n.block in
    (entered image index c.pass.new.self c.in_ok-entries.entries n (c.in_ok-entries.ensures.found honest n.first n.others block) c.in_ok-pass.ensures.ok)

pub returns-then-is_at_end-clause-exact : goal.returns-then-is_at_end-clause-exact
returns-then-is_at_end-clause-exact g c honest =
    first_is_end (body_of (g.S.Receipt.TableReceipt.image c.args.receipt.now)) c.args.index.now _ refl (sym c.is_at_end.ensures ∙ c.if-is_at_end.true)

pub returns-in_err-entries-clause-exact : goal.returns-in_err-entries-clause-exact
returns-in_err-entries-clause-exact g c honest =
    let p = err_from_is_err_and c.from_residual.result c.from_residual.ensures.1 in
    rw (p.1, p.2) (first_fails (λ (es : List Entry). es) or_none c.in_err-entries.field-0.0 (body_of (g.S.Receipt.TableReceipt.image c.args.receipt.now)) c.value.result.now c.args.index.now _
    refl (sym c.is_at_end.ensures ∙ c.if-is_at_end.false) c.value.ensures (c.in_err-entries.ensures.exact honest))

pub returns-clause-exact : goal.returns-clause-exact
returns-clause-exact g c honest =
    first_is (body_of (g.S.Receipt.TableReceipt.image c.args.receipt.now)) c.value.result.now c.args.index.now _ c.in_ok-entries.entries refl
    (sym c.is_at_end.ensures ∙ c.if-is_at_end.false) c.value.ensures (c.in_ok-entries.ensures.exact honest)
