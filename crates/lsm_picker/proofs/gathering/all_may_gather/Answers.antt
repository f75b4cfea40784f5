use Rattle.std.proofs.Common.{◌≡◌, ◌≤◌, true, sym, ◌∙◌, arith}
use Rattle.lsm_picker.specs.Gathering.{may_gather}
use Rattle.lsm_picker.proofs.GatheringLaws.{each_more, item_has}
use Rattle.lsm_picker.proofs.gathering.all_may_gather.Goals as goal
use Rattle.lsm_picker.proofs.gathering.all_may_gather.Goals.{else-number-via-then-number+else-not-may_gather, else-number-via-else-number}

pub returns-then-not-may_gather : goal.returns-then-not-may_gather
returns-then-not-may_gather g c = (
  λ yes. absurd (cc yes),
  λ all.
      let x = c.table-item.result in
      let le : c.args.number ≤ x.number = omega (arith, c.if-number.true, c.number.ensures, c.record.ensures.number) in
      let may = all x (item_has c.args.tables.now c.loop-table.table-index x c.loop-table-test.true c.table-item.is) le in
      absurd (cc (may, c.may_gather.ensures, c.if-not-may_gather.true)),
)

pub loop-table-preserved : goal.loop-table-preserved
loop-table-preserved g c =
    let x = c.table-item.result in
    each_more (λ t. c.args.number ≤ t.number → may_gather c.args.target_size c.args.live.now t ≡ true) c.args.tables.now c.loop-table.table-index x c.loop-table-test.true c.table-item.is c.loop-table.invariant
    (λ le. elim c.else-number.branch [
      | else-number-via-then-number+else-not-may_gather w ↦ sym w.may_gather.ensures ∙ cc w.if-not-may_gather.false
      | else-number-via-else-number w ↦ absurd (omega (arith, le, w.if-number.false, c.number.ensures, c.record.ensures.number))
    ])
