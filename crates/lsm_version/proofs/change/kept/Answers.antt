use Rattle.std.proofs.Common.{ap, sym, ◌∙◌, ◌++◌, ◌∷◌, [], not, true, false}
use Rattle.std.specs.List.{list_any}
use Rattle.std.specs.Prelude.{◌==◌}
use Rattle.lsm_version.specs.Changes.{is_kept}
use Rattle.lsm_version.proofs.Changing.{kept_more}
use Rattle.lsm_version.proofs.change.kept.Goals as goal
use Rattle.lsm_version.proofs.change.kept.Goals.{then-not-contains+in_ok-push, else-not-contains}

pub loop-table-preserved : goal.loop-table-preserved
loop-table-preserved g c =
    let kept = c.loop-table.kept.items in
    let t = c.table-item.result in
    let test = ap not (sym (ap (λ k. list_any (λ n. n == k) c.args.deleted.now) (c.number.ensures ∙ c.record.ensures.number)) ∙ sym c.contains.ensures.value) in
    elim c.if-not-contains.branch [
      | then-not-contains+in_ok-push w ↦
          kept_more (is_kept c.args.deleted.now) c.args.level.now c.loop-table.table-index t true kept _ c.loop-table-test.true c.table-item.is
          (test ∙ ap not w.if-not-contains.true)
          (ap (λ v. v.items) w.kept-is ∙ w.in_ok-push.ensures.items ∙ ap (λ x. kept ++ x ∷ []) w.again.ensures)
          c.loop-table.invariant
      | else-not-contains w ↦
          kept_more (is_kept c.args.deleted.now) c.args.level.now c.loop-table.table-index t false kept _ c.loop-table-test.true c.table-item.is
          (test ∙ ap not w.if-not-contains.false)
          (ap (λ v. v.items) w.kept-is)
          c.loop-table.invariant
    ]
