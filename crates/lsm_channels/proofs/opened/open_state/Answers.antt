use Rattle.std.proofs.Common.{◌+◌, ◌*◌, ap, refl, vec_len, ◌∙◌}
use Rattle.lsm_shelf.specs.Told.{forks_behind}
use Rattle.lsm_shelf.proofs.CallerLemmas.{forked_then}
use Rattle.lsm_store.proofs.CallerLemmas.{forked_at_most, forked_times, forking_then}
use Rattle.lsm_channels.proofs.opened.open_state.Goals as goal

pub returns-in_err-shelves-clause-forked : goal.returns-in_err-shelves-clause-forked
returns-in_err-shelves-clause-forked g c = forked_then _ _ _ c.open_store.ensures.forked
    (forked_at_most _ _ _ c.in_err-shelves.ensures.fewer)

pub returns-clause-forked : goal.returns-clause-forked
returns-clause-forked g c = forked_then _ _ _ c.open_store.ensures.forked
    (forked_times _ _ _ c.in_ok-shelves.ensures.just)

pub returns-clause-shelves : goal.returns-clause-shelves
returns-clause-shelves g c = c.in_ok-shelves.ensures.new
    ∙ ap (λ n. forks_behind g.N.Naming.place n c.args.workers) c.in_ok-store.ensures.told.forks

pub returns-clause-told : goal.returns-clause-told
returns-clause-told g c = forking_then (1 + 2 * vec_len c.in_ok-store.sessions) c.args.workers _ _ _
    _ refl c.in_ok-store.ensures.told c.in_ok-shelves.ensures.just
