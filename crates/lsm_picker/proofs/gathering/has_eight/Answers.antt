use Rattle.std.proofs.Common.{◌≤◌, ℕ, length, sym, ◌∙◌, subst, arith, refl}
use Rattle.lsm_picker.specs.Gathering.{AllMayGather, newest}
use Rattle.lsm_picker.proofs.GatheringLaws.{each_more, item_has}
use Rattle.lsm_picker.proofs.gathering.has_eight.Goals as goal
use Rattle.lsm_picker.proofs.gathering.has_eight.Goals.{else-newest_count-ge8-via-then-newest_count-ge8+else-all_may_gather, else-newest_count-ge8-via-else-newest_count-ge8}

pub returns-then-all_may_gather : goal.returns-then-all_may_gather
returns-then-all_may_gather g c = (
  λ yes.
      let x = c.table-item.result in
      let ts = c.args.tables.now in
      let number = c.number-number.ensures ∙ c.record.ensures.number in
      let all = c.all_may_gather.ensures.0 c.if-all_may_gather.true in
      let eight : 8 ≤ length (newest c.from.result ts) = omega (arith, c.newest_count.ensures.count, c.if-newest_count-ge8.true) in (
        x,
        item_has ts c.loop-table.table-index x c.loop-table-test.true c.table-item.is,
        subst (AllMayGather c.args.target_size c.args.live.now ts) number all,
        subst (λ (n : ℕ). 8 ≤ length (newest n ts)) (c.from.ensures ∙ number) eight,
      ),
  λ has. refl,
)

pub loop-table-preserved : goal.loop-table-preserved
loop-table-preserved g c =
    let x = c.table-item.result in
    let ts = c.args.tables.now in
    let number = c.number-number.ensures ∙ c.record.ensures.number in
    each_more (λ t. AllMayGather c.args.target_size c.args.live.now ts t.number → 8 ≤ length (newest t.number ts) → ⊥) ts c.loop-table.table-index x c.loop-table-test.true c.table-item.is c.loop-table.invariant
    (λ all eight. elim c.else-newest_count-ge8.branch [
      | else-newest_count-ge8-via-then-newest_count-ge8+else-all_may_gather w ↦
          let yes = w.all_may_gather.ensures.1 (subst (AllMayGather c.args.target_size c.args.live.now ts) (sym number) all) in
          let off = w.if-all_may_gather.false in
          absurd (cc (yes, off))
      | else-newest_count-ge8-via-else-newest_count-ge8 w ↦
          let here : 8 ≤ length (newest c.from.result ts) = subst (λ (n : ℕ). 8 ≤ length (newest n ts)) (sym (c.from.ensures ∙ number)) eight in
          absurd (omega (arith, here, c.newest_count.ensures.count, w.if-newest_count-ge8.false))
    ])
