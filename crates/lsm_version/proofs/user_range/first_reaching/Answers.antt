use Rattle.std.proofs.Common.{◌+◌, ◌-◌, ◌/◌, sym, ◌∙◌, arith}
use Rattle.lsm_version.proofs.Rising.{after_more, before_more}
use Rattle.lsm_version.proofs.user_range.first_reaching.Goals as goal

pub loop-low-preserved-then-reaches : goal.loop-low-preserved-then-reaches
loop-low-preserved-then-reaches g c =
    let middle = c.loop-low.low + (c.loop-low.high - c.loop-low.low) / 2 in
    record {
      inside = omega arith;
      below = omega arith;
      before = c.loop-low.invariant.before;
      after = λ r. after_more c.args.level.now middle c.index-level-middle.result c.args.user.now r (omega arith) c.index-level-middle.is (sym c.reaches.ensures ∙ c.if-reaches.true);
    }

pub loop-low-preserved : goal.loop-low-preserved
loop-low-preserved g c =
    let middle = c.loop-low.low + (c.loop-low.high - c.loop-low.low) / 2 in
    record {
      inside = c.loop-low.invariant.inside;
      below = omega arith;
      before = λ r. before_more c.args.level.now middle c.index-level-middle.result c.args.user.now r (omega arith) c.index-level-middle.is (sym c.reaches.ensures ∙ c.if-reaches.false);
      after = c.loop-low.invariant.after;
    }
