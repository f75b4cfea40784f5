use mir.Syntax.{of_param}
use Rattle.lsm_database.proofs.KeepingLaws.{come_compacting}
use Rattle.lsm_database.proofs.Sending.{quiet_unseen}
use Rattle.lsm_database.proofs.running.run_in_store.Goals as goal

pub with_workers-run-requires-clause-kept : goal.with_workers-run-requires-clause-kept
with_workers-run-requires-clause-kept g c κs within =
    come_compacting (g.S.Shelf.refuses g.N.Naming.place) g.S.Shelf.honest g.A.Asking.asks
    g.A.Asking.found

-- the values of the parameters' types may go to another thread
pub with_workers-run-requires-clause-body : goal.with_workers-run-requires-clause-body
with_workers-run-requires-clause-body g c κs within =
    let bound = c.type_bounds in
    record {
      at = λ background. (
        c.requires.asks,
        (
          c.requires.found,
          (
            c.requires.untold,
            (
              record {
                owned =
                    bound.send-N.owned;
                leaving = λ k x w. quiet_unseen (k (of_param 0)) x w;
              },
              record {
                owned =
                    bound.send-S.owned;
                leaving = λ k x w. quiet_unseen (k (of_param 1)) x w;
              },
              record {
                owned =
                    bound.send-A.owned;
                leaving = λ k x w. quiet_unseen (k (of_param 2)) x w;
              },
              record {
                owned =
                    bound.send-S-Receipt.owned;
                leaving = λ k x w. quiet_unseen (k (of_param 5)) x w;
              },
              record { shared = bound.sync-N.shared },
              record { shared = bound.sync-S.shared },
              record { shared = bound.sync-A.shared },
              record { shared = bound.sync-R.shared },
              record { shared = bound.sync-S-Receipt.shared },
            ),
          ),
        ),
      );
    }
