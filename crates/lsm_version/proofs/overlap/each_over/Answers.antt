use Rattle.std.proofs.Common.{◌∙◌, ◌++◌, ◌∷◌, [], true, false, ap, sym}
use Rattle.std.proofs.lemmas.Bool.{and_from}
use Rattle.lsm_version.specs.Overlap.{lies_over}
use Rattle.lsm_version.specs.Reads.{begins_by, reaches}
use Rattle.lsm_version.proofs.Changing.{kept_more}
use Rattle.lsm_version.proofs.Overlaps.{and_false_left, and_false_right}
use Rattle.lsm_version.proofs.overlap.each_over.Goals as goal
use Rattle.lsm_version.proofs.overlap.each_over.Goals.{then-begins_by+then-reaches+in_ok-push, else-begins_by, else-begins_by-via-then-begins_by+else-reaches, else-begins_by-via-else-begins_by}

pub loop-table-preserved : goal.loop-table-preserved
loop-table-preserved g c =
    let t = c.table-item.result in
    let over = c.loop-table.over.items in
    let begins = begins_by t c.args.to.now in
    let ends = reaches t c.args.from.now in
    elim c.if-begins_by.branch [
      | then-begins_by+then-reaches+in_ok-push w ↦
          kept_more (lies_over c.args.from.now c.args.to.now) c.args.level.now c.loop-table.table-index t true over c.if-begins_by.over.items c.loop-table-test.true c.table-item.is
          (and_from begins ends (sym c.begins_by.ensures ∙ w.if-begins_by.true) (sym w.reaches.ensures ∙ w.if-reaches.true))
          (ap (λ v. v.items) w.over-is ∙ w.in_ok-push.ensures.items ∙ ap (λ x. over ++ x ∷ []) w.again.ensures)
          c.loop-table.invariant
      | else-begins_by w ↦
          kept_more (lies_over c.args.from.now c.args.to.now) c.args.level.now c.loop-table.table-index t false over c.if-begins_by.over.items c.loop-table-test.true c.table-item.is
          (elim w.else-begins_by.branch [
            | else-begins_by-via-then-begins_by+else-reaches w' ↦ and_false_right begins ends (sym w'.reaches.ensures ∙ w'.if-reaches.false)
            | else-begins_by-via-else-begins_by w' ↦ and_false_left begins ends (sym c.begins_by.ensures ∙ w'.if-begins_by.false)
          ])
          (ap (λ v. v.items) w.over-is)
          c.loop-table.invariant
    ]
