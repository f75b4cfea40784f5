use Rattle.lsm_picker.specs.Outermost.{MayGoBefore}
use Rattle.lsm_picker.proofs.GatheringLaws.{each_more, item_has}
use Rattle.lsm_picker.proofs.outermost.may_go_first.Goals as goal

pub returns-then-not-may_go_before : goal.returns-then-not-may_go_before
returns-then-not-may_go_before g c = (
  λ yes. absurd (cc yes),
  λ all.
      let x = c.other-item.result in
      let is =
      c.may_go_before.ensures.1
      (all x
      (item_has c.args.tables.now c.loop-other.other-index x c.loop-other-test.true
      c.other-item.is)) in
      absurd (cc (is, c.if-not-may_go_before.true)),
)

pub loop-other-preserved : goal.loop-other-preserved
loop-other-preserved g c =
    each_more (MayGoBefore c.args.table.now) c.args.tables.now c.loop-other.other-index
    c.other-item.result c.loop-other-test.true c.other-item.is c.loop-other.invariant
    (c.may_go_before.ensures.0 (cc c.if-not-may_go_before.false))
