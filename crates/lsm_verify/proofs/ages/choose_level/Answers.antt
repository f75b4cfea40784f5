use Rattle.std.proofs.Common.{ap, sym, ◌∙◌, ◌++◌, ◌∷◌, [], true, false}
use Rattle.std.specs.List.{list_any}
use Rattle.std.specs.Prelude.{◌==◌}
use Rattle.lsm_verify.specs.Chosen.{is_among}
use Rattle.lsm_version.proofs.CallerLemmas.{kept_more}
use Rattle.lsm_verify.proofs.ages.choose_level.Goals as goal
use Rattle.lsm_verify.proofs.ages.choose_level.Goals.{then-is_among+in_ok-push, else-is_among}

pub loop-table-preserved : goal.loop-table-preserved
loop-table-preserved g c =
    let tables = c.loop-table.tables.items in
    let t = c.table-item.result in
    let test = sym (ap (λ k. list_any (λ n. n == k) c.args.numbers.now) (c.number.ensures ∙ c.record.ensures.number)) ∙ sym c.is_among.ensures in
    elim c.if-is_among.branch [
      | then-is_among+in_ok-push w ↦
          kept_more (is_among c.args.numbers.now) c.args.level.now c.loop-table.table-index t true tables _ c.loop-table-test.true c.table-item.is
          (test ∙ w.if-is_among.true)
          (ap (λ v. v.items) w.tables-is ∙ w.in_ok-push.ensures.items ∙ ap (λ x. tables ++ x ∷ []) w.again.ensures)
          c.loop-table.invariant
      | else-is_among w ↦
          kept_more (is_among c.args.numbers.now) c.args.level.now c.loop-table.table-index t false tables _ c.loop-table-test.true c.table-item.is
          (test ∙ w.if-is_among.false)
          (ap (λ v. v.items) w.tables-is)
          c.loop-table.invariant
    ]
