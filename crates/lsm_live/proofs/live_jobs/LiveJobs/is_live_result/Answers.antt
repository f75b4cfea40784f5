use Rattle.std.proofs.Common.{List, refl, ◌∙◌, subst}
use Rattle.std.proofs.lemmas.Bool.{both_ways}
use Rattle.lsm_codec.specs.Lists.{Has}
use Rattle.lsm_live.specs.Booked.{AreIncreasing, Booked}
use Rattle.lsm_live.specs.Results.{Awaits}
use Rattle.lsm_live.proofs.Elements.{each_more, has_at}
use Rattle.lsm_live.proofs.live_jobs.LiveJobs.is_live_result.Goals as goal

pub returns-then-awaits : goal.returns-then-awaits
returns-then-awaits g c =
    let x : Booked = c.one-item.result in (
      λ e. (
        x,
        record {
          is_live = subst (λ (l : List Booked). Has l x) (c.deref-one-items.ensures.value ∙ c.self.view_is) (has_at c.deref-one-items.result.now c.loop-one.one-index x c.loop-one-test.true c.one-item.is);
          awaits = c.awaits.ensures.0 c.if-awaits.true;
          rising = subst AreIncreasing c.put_numbers.ensures (c.are_increasing.ensures.0 c.if-not-are_increasing.false);
        },
      ),
      λ h. refl,
    )

pub loop-one-preserved : goal.loop-one-preserved
loop-one-preserved g c =
    each_more (λ (b : Booked). Awaits b c.args.done.now → ⊥) c.deref-one-items.result.now c.loop-one.one-index c.one-item.result c.loop-one-test.true c.one-item.is c.loop-one.invariant
    (λ a. both_ways c.awaits.result c.if-awaits.false (c.awaits.ensures.1 a))
