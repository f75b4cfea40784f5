use Rattle.lsm_shelf.specs.Told.{Counted}
use Rattle.lsm_crash.specs.Refusing.{IsWantOrDevice}
use Rattle.lsm_crash.proofs.Refusing.{device_failed, not_found, not_opened}
use Rattle.lsm_crash.proofs.states.openings_are_not_refused_for_what_is_shown.Goals as goal

pub returns-clause-open : goal.returns-clause-open
returns-clause-open g c = λ limit e v d was is fair sound shown reads r.
    not_opened _ v d was is sound shown reads (λ fault. Counted fault was is) (λ fault k. k) c.shapes_in_order.ensures e (g.S.Shelf.refuses g.N.Naming.place) g.S.Shelf.honest limit fair r

pub returns-clause-device : goal.returns-clause-device
returns-clause-device g c = λ limit e v d was is fair sound shown reads r small same.
    not_opened _ v d was is sound shown reads IsWantOrDevice (device_failed was is small same) c.shapes_in_order.ensures e (g.S.Shelf.refuses g.N.Naming.place) g.S.Shelf.honest limit fair r

pub returns-clause-read : goal.returns-clause-read
returns-clause-read g c = λ e v d was is fair sound shown reads r.
    not_found _ v d was is sound shown reads (λ fault. Counted fault was is) (λ fault k. k) c.shapes_in_order.ensures e (g.S.Shelf.refuses g.N.Naming.place) g.S.Shelf.honest fair r
