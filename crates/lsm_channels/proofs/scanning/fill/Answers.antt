use Rattle.std.proofs.Common.{◌+◌, ap, ◌∙◌, subst}
use Rattle.lsm_frames.specs.Views.{stretch_of}
use Rattle.lsm_store.specs.Readers.{Learnt}
use Rattle.lsm_channels.specs.Stepping.{Grows, Turns, ahead}
use Rattle.lsm_channels.proofs.PairLaws.{so_far_more}
use Rattle.lsm_channels.proofs.scanning.fill.Goals as goal

pub loop-count-preserved : goal.loop-count-preserved
loop-count-preserved g c = record {
  so_far = λ h.
      (let t = subst (λ t. Turns (stretch_of c.args.range).to c.args.range.limit (ahead c.loop-count.next c.loop-count.scan.left) t c.take_turn.new.scan.left c.loop-count.pairs c.take_turn.new.pairs)
      c.in-Next.is (c.in_ok-pair.ensures.turn h) in
      so_far_more _ _ _ _ _ t.0 _ _ (c.loop-count.invariant.so_far h) t.1 t.2 t.3 t.4);
  count = subst (λ t. Grows t c.loop-count.pairs c.take_turn.new.pairs) c.in-Next.is c.in_ok-pair.ensures.grows ∙ ap (λ n. n + 1) c.loop-count.invariant.count;
  rest = c.take_turn.ensures.rest ∙ ap (λ (v : Learnt). record v { told = c.take_turn.new.view.told }) c.loop-count.invariant.rest;
}
