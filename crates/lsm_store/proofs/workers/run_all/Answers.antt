use Rattle.lsm_store.proofs.Sending.{quiet_unseen}
use mir.Syntax.{of_param}
use Rattle.lsm_store.proofs.workers.run_all.Goals as goal

-- the values of the parameters' types may go to another thread
pub scoped-requires : goal.scoped-requires
scoped-requires g c =
    let bound = c.type_bounds in
    record {
      at = λ scope. (
        c.requires.kept,
        ((
          c.requires.none,
          (
            c.requires.room,
            (
              c.closing_when_idle-bell.ensures,
              (
                record { owned = bound.send-N.owned; leaving = λ k x w. quiet_unseen (k (of_param 0)) x w },
                record { owned = bound.send-S.owned; leaving = λ k x w. quiet_unseen (k (of_param 1)) x w },
                record { owned = bound.send-K.owned; leaving = λ k x w. quiet_unseen (k (of_param 2)) x w },
                record { owned = bound.send-S-Receipt.owned; leaving = λ k x w. quiet_unseen (k (of_param 5)) x w },
                record { shared = bound.sync-N.shared },
                record { shared = bound.sync-S.shared },
                record { shared = bound.sync-K.shared },
                record { shared = bound.sync-G.shared },
                record { shared = bound.sync-R.shared },
                record { shared = bound.sync-S-Receipt.shared },
              ),
            ),
          ),
        )),
      );
    }
