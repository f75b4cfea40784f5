use Rattle.std.proofs.Common.{refl}
use Rattle.lsm_store.proofs.Sending.{quiet_unseen}
use mir.Syntax.{of_param}
use Rattle.lsm_store.proofs.background_workers.run_beside.Goals as goal

-- the values of the parameters' types may go to another thread
pub scoped-requires : goal.scoped-requires
scoped-requires g c =
    let bound = c.type_bounds in
    record {
      at = λ scope. (
        c.requires.kept,
        (
          c.requires.body,
          ((
            c.requires.none,
            (
              c.requires.room,
              (
                refl,
                (
                  refl,
                  (
                    c.of-background.ensures,
                    (
                      record { owned = bound.send-N.owned; leaving = λ k x w. quiet_unseen (k (of_param 0)) x w },
                      record { owned = bound.send-S.owned; leaving = λ k x w. quiet_unseen (k (of_param 1)) x w },
                      record { owned = bound.send-K.owned; leaving = λ k x w. quiet_unseen (k (of_param 2)) x w },
                      record { owned = bound.send-S-Receipt.owned; leaving = λ k x w. quiet_unseen (k (of_param 7)) x w },
                      record { shared = bound.sync-N.shared },
                      record { shared = bound.sync-S.shared },
                      record { shared = bound.sync-K.shared },
                      record { shared = bound.sync-G.shared },
                      record { shared = bound.sync-R.shared },
                      record { shared = bound.sync-S-Receipt.shared },
                    ),
                  ),
                ),
              ),
            ),
          )),
        ),
      );
    }
