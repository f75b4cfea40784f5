use Rattle.std.proofs.Common.{sym, ap, ◌∙◌}
use Rattle.std.specs.Option.{option_or}
use Rattle.lsm_manifest.proofs.LastLaws.{last_by-next, last_by-none}
use Rattle.lsm_manifest.proofs.last_values.LastValues.of.Goals as goal

pub loop-edit-init : goal.loop-edit-init
loop-edit-init c = record { log = sym (last_by-none _); prev_log = sym (last_by-none _); next = sym (last_by-none _); last = sym (last_by-none _) }

pub loop-edit-preserved : goal.loop-edit-preserved
loop-edit-preserved c =
    let x = c.edit-item.result in
    let i = c.loop-edit.edit-index in
    let lt = c.loop-edit-test.true in
    record {
      log = c.or.ensures ∙ ap (option_or x.log) c.loop-edit.invariant.log ∙ sym (last_by-next _ c.args.edits.now i x lt c.edit-item.is);
      prev_log = c.or-in-loop-edit.ensures ∙ ap (option_or x.prev_log) c.loop-edit.invariant.prev_log ∙ sym (last_by-next _ c.args.edits.now i x lt c.edit-item.is);
      next = c.or-in-loop-edit-2.ensures ∙ ap (option_or x.next) c.loop-edit.invariant.next ∙ sym (last_by-next _ c.args.edits.now i x lt c.edit-item.is);
      last = c.or-in-loop-edit-3.ensures ∙ ap (option_or x.last) c.loop-edit.invariant.last ∙ sym (last_by-next _ c.args.edits.now i x lt c.edit-item.is);
    }
