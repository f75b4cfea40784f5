use Rattle.lsm_mirror.proofs.StoredLaws.{shown_stored, stored_shown}
use Rattle.lsm_mirror.proofs.laws.stored_is_shown.Goals as goal

pub returns-clause-shown : goal.returns-clause-shown
returns-clause-shown g c = λ number image stored.
    stored_shown g.S.Receipt.TableReceipt (g.S.Shelf.is_of g.V.Mirroring.place)
    g.V.Mirroring.shown number image stored

pub returns-clause-stored : goal.returns-clause-stored
returns-clause-stored g c = λ number image small shown.
    shown_stored g.S.Receipt.TableReceipt (g.S.Shelf.is_of g.V.Mirroring.place)
    g.V.Mirroring.shown number image small shown
