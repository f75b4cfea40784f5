use Rattle.lsm_shelf.proofs.CallerLemmas.{forked_once, forked_same, forked_then}
use Rattle.lsm_store.proofs.CallerLemmas.{forked_at_most, forked_times}
use Rattle.lsm_cmd_bench.proofs.running.shelves_for.Goals as goal

pub returns-in_err-shelves-clause-told : goal.returns-in_err-shelves-clause-told
returns-in_err-shelves-clause-told g c = forked_at_most _ _ _ c.in_err-shelves.ensures.fewer

pub returns-in_err-reading-clause-told : goal.returns-in_err-reading-clause-told
returns-in_err-reading-clause-told g c =
    forked_then _ _ _ (forked_times _ _ _ c.in_ok-shelves.ensures.just)
    (forked_same _ _ c.in_err-reading.ensures.err)

pub returns-clause-told : goal.returns-clause-told
returns-clause-told g c =
    forked_then _ _ _ (forked_times _ _ _ c.in_ok-shelves.ensures.just)
    (forked_once _ _ c.in_ok-reading.ensures.ok)
