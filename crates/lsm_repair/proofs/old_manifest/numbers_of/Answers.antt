use Rattle.std.proofs.Common.{sym, ap, ◌∙◌}
use Rattle.std.specs.Option.{option_or}
use Rattle.lsm_manifest.proofs.CallerLemmas.{last_by-none}
use Rattle.lsm_repair.proofs.OldLaws.{last_next}
use Rattle.lsm_repair.proofs.old_manifest.numbers_of.Goals as goal

pub loop-edit-init : goal.loop-edit-init
loop-edit-init c = record { log = sym (last_by-none _); prev_log = sym (last_by-none _) }

pub loop-edit-preserved : goal.loop-edit-preserved
loop-edit-preserved c =
    let x = c.edit-item.result in
    let i = c.loop-edit.edit-index in
    let lt = c.loop-edit-test.true in
    record {
      log = c.or-log.ensures ∙ ap (option_or x.log) c.loop-edit.invariant.log
          ∙ sym (last_next _ c.args.edits.now i x lt c.edit-item.is);
      prev_log = c.or-prev_log.ensures ∙ ap (option_or x.prev_log)
          c.loop-edit.invariant.prev_log ∙ sym (last_next _ c.args.edits.now i x lt
          c.edit-item.is);
    }
