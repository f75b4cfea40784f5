use Rattle.std.proofs.Common.{◌≡◌, Global, ap, sym, ◌∙◌}
use Rattle.std.proofs.lemmas.Result.{err_from_is_err_and}
use Rattle.std.specs.Arc.{arc_value}
use Rattle.lsm_codec.specs.Keys.{InternalKey}
use Rattle.lsm_block.specs.Held.{HeldBlock}
use Rattle.lsm_block.specs.Seeking.{not_below}
use Rattle.lsm_table.specs.HeldTable.{entries_in}
use Rattle.lsm_table.proofs.CallerLemmas.{opened_names}
use Rattle.lsm_reader.specs.Blocks.{left_at}
use Rattle.lsm_iterators.specs.Seeking.{at_or_past}
use Rattle.lsm_iterators.proofs.RunLaws.{none_at_end}
use Rattle.lsm_iterators.proofs.SeekLaws.{opening_sound, sought_table}
use Rattle.lsm_iterators.proofs.table_iter.TableIter.seek_by.Goals as goal

pub returns-in_err-index-clause-sound : goal.returns-in_err-index-clause-sound
returns-in_err-index-clause-sound g c honest =
    let image = g.S.Receipt.TableReceipt.image c.args.receipt in
    let p = err_from_is_err_and c.from_residual.result c.from_residual.ensures.1 in
    rw (p.1, p.2) (opening_sound (λ b. (arc_value {X = HeldBlock} {Z = Global} b).entries) c.in_err-index.field-0.0 image (entries_in image) (c.requires.table honest).table (c.in_err-index.ensures.exact honest))

pub returns-in_err-cursor-clause-sound : goal.returns-in_err-cursor-clause-sound
returns-in_err-cursor-clause-sound g c honest =
    let image = g.S.Receipt.TableReceipt.image c.args.receipt in
    let p = err_from_is_err_and c.from_residual-in_err-cursor.result c.from_residual-in_err-cursor.ensures.1 in
    rw (p.1, p.2) (c.in_err-cursor.ensures.sound honest (entries_in image) (opened_names image (entries_in image) _ (c.requires.table honest).table (c.in_ok-index.ensures.exact honest)))

pub returns-then-is_at_end-clause-sound : goal.returns-then-is_at_end-clause-sound
returns-then-is_at_end-clause-sound g c honest =
    let image = g.S.Receipt.TableReceipt.image c.args.receipt in
    let table = c.requires.table honest in
    let found = c.in_ok-cursor.ensures.found honest (entries_in image) (opened_names image (entries_in image) _ table.table (c.in_ok-index.ensures.exact honest)) in
    let left : left_at image c.in_ok-cursor.cursor ≡ at_or_past c.args.from.now (entries_in image) =
    found.1 ∙ ap (λ (k : InternalKey). not_below k (entries_in image)) c.key_for-key.ensures ∙ sought_table c.args.from.now image table in
    c.requires.reached honest (none_at_end (left_at image c.in_ok-cursor.cursor) (at_or_past c.args.from.now (entries_in image)) left (sym (c.is_at_end.ensures image) ∙ c.if-is_at_end.true))

pub invariant_of-result : goal.invariant_of-result
invariant_of-result g c = (
  c.requires.named,
  λ honest. (let image = g.S.Receipt.TableReceipt.image c.args.receipt in
      (c.in_ok-cursor.ensures.found honest (entries_in image) (opened_names image (entries_in image) _ (c.requires.table honest).table (c.in_ok-index.ensures.exact honest))).0),
)

pub returns-clause-entries : goal.returns-clause-entries
returns-clause-entries g c honest =
    let image = g.S.Receipt.TableReceipt.image c.args.receipt in
    let table = c.requires.table honest in
    (c.in_ok-cursor.ensures.found honest (entries_in image) (opened_names image (entries_in image) _ table.table (c.in_ok-index.ensures.exact honest))).1
    ∙ ap (λ (k : InternalKey). not_below k (entries_in image)) c.key_for-key.ensures ∙ sought_table c.args.from.now image table
