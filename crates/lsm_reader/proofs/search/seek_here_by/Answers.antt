use Rattle.std.proofs.Common.{Global, ◌∷◌, ℕ, List, refl, sym, ap, ◌∙◌, subst}
use Rattle.std.proofs.lemmas.Result.{err_from_is_err_and}
use Rattle.std.specs.Arc.{arc_value}
use Rattle.lsm_codec.specs.Entries.{Entry}
use Rattle.lsm_codec.specs.KeyRef.{key_of}
use Rattle.lsm_block.specs.Held.{HeldBlock}
use Rattle.lsm_block.specs.Seeking.{not_below}
use Rattle.lsm_table.specs.Footer.{body_of}
use Rattle.lsm_table.specs.Table.{DataBlock}
use Rattle.lsm_table.proofs.CallerLemmas.{named_there}
use Rattle.lsm_reader.proofs.CursorLaws.{named_sound, sought_next, is_sought}
use Rattle.lsm_reader.proofs.GettingLaws.{there_is, there_fails}
use Rattle.lsm_reader.proofs.search.seek_here_by.Goals as goal

pub returns-in_err-block-clause-sound : goal.returns-in_err-block-clause-sound
returns-in_err-block-clause-sound g c honest es s =
    let p = err_from_is_err_and c.from_residual.result c.from_residual.ensures.1 in
    rw (p.1, p.2) (let image = g.S.Receipt.TableReceipt.image c.args.receipt.now in
    let n = sought_next (key_of c.args.key.now) image c.args.index.now es c.requires.some s in
    named_sound (λ b. (arc_value {X = HeldBlock} {Z = Global} b).entries) c.in_err-block.field-0.0
    (body_of image) c.value.result.now (n.first ∷ n.others)
    (subst (λ (p : List ℕ). DataBlock (body_of image) p (n.first ∷ n.others)) (sym c.value.ensures)
    n.block) (c.in_err-block.ensures.exact honest))

pub returns-clause-found : goal.returns-clause-found
returns-clause-found g c honest es s =
    let image = g.S.Receipt.TableReceipt.image c.args.receipt.now in
    let key = key_of c.args.key.now in
    let n = sought_next key image c.args.index.now es c.requires.some s in
    let block = subst (λ (p : List ℕ). DataBlock (body_of image) p (n.first ∷ n.others)) (sym
    c.value.ensures) n.block in
    let there = named_there (body_of image) c.value.result.now _ (n.first ∷ n.others)
    (c.in_ok-block.ensures.exact honest) block in
    is_sought key image c.args.index.now es _ c.in_ok-entries.entries n
    (c.in_ok-entries.ensures ∙ ap (not_below key) there) refl

pub returns-in_err-block-clause-exact : goal.returns-in_err-block-clause-exact
returns-in_err-block-clause-exact g c honest =
    let p = err_from_is_err_and c.from_residual.result c.from_residual.ensures.1 in
    rw (p.1, p.2) (there_fails (λ b. (arc_value {X = HeldBlock} {Z = Global} b).entries) (λ (es :
    List Entry). es) c.in_err-block.field-0.0 (key_of c.args.key.now) (body_of
    (g.S.Receipt.TableReceipt.image c.args.receipt.now)) c.value.result.now c.args.index.now
    c.value.ensures (c.in_err-block.ensures.exact honest))

pub returns-clause-exact : goal.returns-clause-exact
returns-clause-exact g c honest =
    there_is (key_of c.args.key.now) (body_of (g.S.Receipt.TableReceipt.image c.args.receipt.now))
    c.value.result.now c.args.index.now _ c.in_ok-entries.entries c.value.ensures
    (c.in_ok-block.ensures.exact honest) c.in_ok-entries.ensures
