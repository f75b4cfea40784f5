use Rattle.std.proofs.Common.{sym, ◌∙◌, ◌+◌, subst, take}
use Rattle.lsm_version.proofs.Youngest.{IsBest, takes, keeps_newest, keeps_other}
use Rattle.lsm_version.proofs.user_range.youngest_below.Goals as goal
use Rattle.lsm_version.proofs.user_range.youngest_below.Goals.{then-is_candidate+then-is_newer, else-is_candidate, else-is_candidate-via-then-is_candidate+else-is_newer, else-is_candidate-via-else-is_candidate}

pub loop-table-preserved : goal.loop-table-preserved
loop-table-preserved g c =
    let k = c.args.user.now in
    let ts = c.args.level.now in
    let i = c.loop-table.table-index in
    let x = c.table-item.result in
    elim c.if-is_candidate.branch [
      | then-is_candidate+then-is_newer w ↦ subst (IsBest k c.args.bound (take (i + 1) ts)) (sym w.best-is)
          (takes k c.args.bound ts i x c.loop-table.best w.is_newer.result c.loop-table-test.true c.table-item.is (sym c.is_candidate.ensures ∙ w.if-is_candidate.true) w.is_newer.ensures w.if-is_newer.true c.loop-table.invariant)
      | else-is_candidate w ↦ subst (IsBest k c.args.bound (take (i + 1) ts)) (sym w.best-is) (elim w.else-is_candidate.branch [
        | else-is_candidate-via-then-is_candidate+else-is_newer w' ↦
            keeps_newest k c.args.bound ts i x c.loop-table.best w'.is_newer.result c.loop-table-test.true c.table-item.is w'.is_newer.ensures w'.if-is_newer.false c.loop-table.invariant
        | else-is_candidate-via-else-is_candidate w' ↦
            keeps_other k c.args.bound ts i x c.loop-table.best c.loop-table-test.true c.table-item.is (sym c.is_candidate.ensures ∙ w'.if-is_candidate.false) c.loop-table.invariant
      ])
    ]
