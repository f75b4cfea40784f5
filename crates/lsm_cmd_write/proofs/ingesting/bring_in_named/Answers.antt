use Rattle.lsm_cmd_write.proofs.QuickOutcomes.{behind_done, behind_fault}
use Rattle.lsm_cmd_write.proofs.ingesting.bring_in_named.Goals as goal

pub returns-clause-done : goal.returns-clause-done
returns-clause-done g c =
    behind_done c.bring_in_opened.result g.S.Shelf.honest _ _ _ c.in_ok-state.state _ _ _ _ _
    c.in_ok-state.ensures.started c.bring_in_opened.ensures.done

pub returns-clause-fault : goal.returns-clause-fault
returns-clause-fault g c =
    behind_fault c.bring_in_opened.result _ (g.S.Shelf.refuses g.N.Naming.place) g.S.Shelf.honest _
    _ _ c.in_ok-state.state _ _ _ c.in_ok-state.ensures.started c.bring_in_opened.ensures.fault
