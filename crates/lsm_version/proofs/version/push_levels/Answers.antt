use Rattle.std.proofs.Common.{◌∙◌, ◌++◌, ap, map, List}
use Rattle.lsm_table.specs.Registry.{Table}
use Rattle.lsm_version.proofs.Pushing.{numbers_more, front_more}
use Rattle.lsm_version.proofs.version.push_levels.Goals as goal

pub returns-in_err-push_level-clause-front : goal.returns-in_err-push_level-clause-front
returns-in_err-push_level-clause-front g c = front_more _ _ _ c.loop-level.invariant.front c.push_level.ensures.front

pub loop-level-preserved : goal.loop-level-preserved
loop-level-preserved g c = record {
  whole = numbers_more (λ v. v.items) c.args.levels.now c.loop-level.level-index c.level-item.result c.loop-level.numbers.items c.push_level.new.numbers.items _
      c.loop-level-test.true c.level-item.is
      (c.in_ok-push_level.ensures.ok ∙ ap (λ (ts : List Table). c.loop-level.numbers.items ++ map (λ t. t.number) ts) c.as_slice.ensures.value) c.loop-level.invariant.whole;
  front = front_more _ _ _ c.loop-level.invariant.front c.push_level.ensures.front;
}
