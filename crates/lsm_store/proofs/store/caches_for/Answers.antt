use Rattle.std.proofs.Common.{◌+◌, ap, ◌∙◌}
use Rattle.std.proofs.lemmas.List.Elements.{All-push, All-same}
use Rattle.lsm_shelf.proofs.CallerLemmas.{forked_then}
use Rattle.lsm_state.specs.Held.{Held}
use Rattle.lsm_store.specs.Readers.{IsKnownBy, known_by}
use Rattle.lsm_store.proofs.store.caches_for.Goals as goal

pub loop-number-preserved : goal.loop-number-preserved
loop-number-preserved g c =
    let before = c.loop-number.invariant in
    let place = g.N.Naming.place in
    let IsAt = IsKnownBy c.args.state.now place in
    let number = c.loop-number.shelf.forks + 1 in
    record {
      told = forked_then _ _ _ before.told c.new-in-loop-number.ensures.told;
      same = c.new-in-loop-number.ensures.same ∙ before.same;
      caches = All-same IsAt _ _ c.in_ok-push.ensures.items
          (All-push IsAt _ c.in_ok-cache.cache before.caches (
            number,
            c.in_ok-cache.ensures.cache
                ∙ ap (λ (h : Held). known_by h place number) before.same,
          ));
      len = c.in_ok-push.ensures.len ∙ ap (λ n. n + 1) before.len;
    }

pub returns-in_err-cache-clause-told : goal.returns-in_err-cache-clause-told
returns-in_err-cache-clause-told g c = forked_then _ _ _ c.loop-number.invariant.told c.new-in-loop-number.ensures.told

pub returns-in_err-push-clause-told : goal.returns-in_err-push-clause-told
returns-in_err-push-clause-told g c = forked_then _ _ _ c.loop-number.invariant.told c.new-in-loop-number.ensures.told
