use Rattle.std.proofs.Common.{◌∙◌, ◌++◌, ap}
use Rattle.lsm_picker.specs.RangesBelow.{ranges_of}
use Rattle.lsm_picker.proofs.Ranges.{ranges_done, ranges_more}
use Rattle.lsm_picker.proofs.deep_ranges.ranges_below.Goals as goal

pub loop-below-preserved : goal.loop-below-preserved
loop-below-preserved g c =
    ranges_more c.args.version.now c.args.level c.loop-below.below c.loop-below.ranges.items c.push_ranges.new.ranges.items
    (c.in_ok-push_ranges.ensures ∙ ap (λ ts. c.loop-below.ranges.items ++ ranges_of ts) c.level.ensures) c.loop-below.invariant

pub returns : goal.returns
returns g c = ranges_done c.args.version.now c.args.level c.loop-below.below c.loop-below.ranges.items c.last-last.ensures.levels c.loop-below-test.false c.loop-below.invariant
