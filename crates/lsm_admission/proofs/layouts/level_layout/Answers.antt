use Rattle.std.proofs.Common.{◌+◌, ℕ, List, take, sym, ◌∙◌, subst}
use Rattle.lsm_codec.specs.Keys.{IsKey}
use Rattle.lsm_model.specs.Ranges.{Range, IsLevel, IsLaidOut}
use Rattle.lsm_admission.specs.FoundTables.{IsBounds}
use Rattle.lsm_verify.specs.LevelLayouts.{AreRangesOf}
use Rattle.lsm_codec.proofs.CallerLemmas.{contains_says}
use Rattle.lsm_admission.proofs.LevelRanges.{ranges_more, lies_as}
use Rattle.lsm_admission.proofs.layouts.level_layout.Goals as goal

pub range_of-range-requires-clause-first : goal.range_of-range-requires-clause-first
range_of-range-requires-clause-first g c =
    let level = c.args.level.now in
    let t = c.table-item.result in
    let w : IsBounds t.smallest t.largest = c.requires.bounded t
    (contains_says level t (
      c.loop-table.table-index,
      c.loop-table-test.true,
      sym
          c.table-item.is,
    )) in (
      w.range.smallest,
      subst (λ (b : List ℕ). IsKey b w.range.smallest)
          (sym (c.as_slice.ensures ∙ c.record-record.ensures.smallest)) w.first,
    )

pub range_of-range-requires-clause-last : goal.range_of-range-requires-clause-last
range_of-range-requires-clause-last g c =
    let level = c.args.level.now in
    let t = c.table-item.result in
    let w : IsBounds t.smallest t.largest = c.requires.bounded t
    (contains_says level t (
      c.loop-table.table-index,
      c.loop-table-test.true,
      sym
          c.table-item.is,
    )) in (
      w.range.largest,
      subst (λ (b : List ℕ). IsKey b w.range.largest)
          (sym (c.as_slice-in-loop-table.ensures ∙ c.record-record.ensures.largest)) w.end,
    )

pub loop-table-preserved : goal.loop-table-preserved
loop-table-preserved g c =
    let level = c.args.level.now in
    let t = c.table-item.result in
    let r : Range = c.range_of-range.result in
    subst (λ (rs : List Range). AreRangesOf (take (c.loop-table.table-index + 1) level) rs)
    (sym c.in_ok-push.ensures.items)
    (ranges_more level c.loop-table.table-index t c.loop-table.ranges.items r
    c.loop-table-test.true c.table-item.is c.loop-table.invariant
    (subst (λ (b : List ℕ). IsKey b r.smallest) (c.as_slice.ensures
    ∙ c.record-record.ensures.smallest) c.range_of-range.ensures.first)
    (subst (λ (b : List ℕ). IsKey b r.largest) (c.as_slice-in-loop-table.ensures
    ∙ c.record-record.ensures.largest) c.range_of-range.ensures.last))

pub returns : goal.returns
returns g c =
    lies_as c.args.level.now c.loop-table.table-index c.loop-table.ranges.items c.layout_of.result
    c.loop-table-test.false c.requires.bounded c.requires.order c.loop-table.invariant
    (λ level. subst (λ (rs : List Range). IsLaidOut rs c.layout_of.result) c.deref.ensures.value
    (c.layout_of.ensures (subst IsLevel (sym c.deref.ensures.value) level)))
