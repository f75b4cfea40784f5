use Rattle.std.proofs.Common.{◌*◌, ap, refl, vec_len, ◌∙◌}
use Rattle.lsm_channels.specs.Serving.{own_forks}
use Rattle.lsm_shelf.proofs.CallerLemmas.{forked_once, forked_same, forked_then}
use Rattle.lsm_store.proofs.CallerLemmas.{forking_then}
use Rattle.lsm_channels.proofs.opened.open_store.Goals as goal

pub returns-in_err-reading-clause-forked : goal.returns-in_err-reading-clause-forked
returns-in_err-reading-clause-forked g c = forked_same _ _ c.in_err-reading.ensures.err

pub returns-in_err-sessions-in-Ok-clause-forked : goal.returns-in_err-sessions-in-Ok-clause-forked
returns-in_err-sessions-in-Ok-clause-forked g c = forked_then _ _ _ (forked_once _ _ c.in_ok-reading.ensures.ok) c.in_err-sessions-in-Ok.ensures.forked

pub returns-in_ok-sessions-in-Ok-clause-forked : goal.returns-in_ok-sessions-in-Ok-clause-forked
returns-in_ok-sessions-in-Ok-clause-forked g c = forked_then _ _ _ (forked_once _ _ c.in_ok-reading.ensures.ok) c.in_ok-sessions-in-Ok.ensures.forked

pub returns-in_ok-sessions-in-Ok-clause-own : goal.returns-in_ok-sessions-in-Ok-clause-own
returns-in_ok-sessions-in-Ok-clause-own g c = c.in_ok-sessions-in-Ok.ensures.own
    ∙ ap (λ n. own_forks g.N.Naming.place n (vec_len c.in_ok-sessions-in-Ok.sessions))
    c.in_ok-reading.ensures.ok.forks

pub returns-in_ok-sessions-in-Ok-clause-told : goal.returns-in_ok-sessions-in-Ok-clause-told
returns-in_ok-sessions-in-Ok-clause-told g c =
    forking_then 1 (2 * vec_len c.in_ok-sessions-in-Ok.sessions) _ _ _ _ refl
    c.in_ok-reading.ensures.ok c.in_ok-sessions-in-Ok.ensures.told
