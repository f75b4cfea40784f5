use Rattle.lsm_theorems.proofs.CallSteps.{install_so, unspent_so}
use Rattle.lsm_theorems.proofs.calls.installs_are_calls.Goals as goal

pub returns-clause-ok : goal.returns-clause-ok
returns-clause-ok g c = install_so g.S.Shelf.honest c.install.result c.args.state.now c.install.new.self c.args.done c.install.ensures.event c.install.ensures.history

pub returns-clause-err : goal.returns-clause-err
returns-clause-err g c = unspent_so g.S.Shelf.honest c.install.result c.args.state.now c.install.new.self c.install.ensures.event_err c.install.ensures.history
