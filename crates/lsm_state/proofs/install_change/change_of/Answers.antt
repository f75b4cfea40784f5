use Rattle.std.proofs.Common.{◌≤◌, ℕ, List, ◌∙◌, ap, sym, subst}
use Rattle.lsm_codec.specs.Lists.{Has}
use Rattle.lsm_table.specs.Registry.{Table}
use Rattle.lsm_manifest.specs.EditFit.{FitsKey}
use Rattle.lsm_version.specs.Versions.{IsWhole}
use Rattle.lsm_merge.specs.Work.{Work}
use Rattle.lsm_state.proofs.InstallLaws.{added_levels, deleted_levels}
use Rattle.lsm_state.proofs.install_change.change_of.Goals as goal

pub new-change-requires-clause-deleted : goal.new-change-requires-clause-deleted
new-change-requires-clause-deleted g c κs within =
    let low = (c.job-job.ensures.finished).low in
    let job = c.job-job.ensures.job in
    let level = c.level-level.ensures.level in
    let low_level : c.level-level.result ≤ 5 = subst (λ (n : ℕ). n ≤ 5) (sym (level ∙ ap (λ (w : Work). w.level) job)) low in
    deleted_levels c.level-level.result c.upper.result.now c.lower.result.now c.new-deleted.result.items c.push_deleted.new.deleted.items c.push_deleted-2.new.deleted.items
    low_level c.new-deleted.ensures.items c.in_ok-push_deleted.ensures c.in_ok-push_deleted-2.ensures

pub new-change-requires-clause-added : goal.new-change-requires-clause-added
new-change-requires-clause-added g c κs within =
    let low = (c.job-job.ensures.finished).low in
    let job = c.job-job.ensures.job in
    let level = c.level-level.ensures.level in
    let low_level : c.level-level.result ≤ 5 = subst (λ (n : ℕ). n ≤ 5) (sym (level ∙ ap (λ (w : Work). w.level) job)) low in
    added_levels g.S.Shelf.honest c.args.done.now c.level-level.result c.outputs.result.now c.in_ok-added.added.items low_level c.outputs.ensures c.job-job.ensures.finished
    c.requires.keys (subst (λ (ts : List (ℕ × Table)). (n : ℕ) (t : Table) → Has ts (n, t) → IsWhole t → FitsKey t.smallest × FitsKey t.largest) c.deref.ensures.value c.added_keys_fit.ensures)
    c.in_ok-added.ensures
