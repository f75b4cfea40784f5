use Rattle.lsm_theorems.proofs.CallSteps.{same_so, snapshot_so}
use Rattle.lsm_theorems.proofs.calls.snapshots_are_calls.Goals as goal

pub returns-clause-ok : goal.returns-clause-ok
returns-clause-ok g c = snapshot_so g.S.Shelf.honest c.snapshot.result c.args.state.now c.snapshot.new.self c.snapshot.ensures.ok c.snapshot.ensures.event

pub returns-clause-err : goal.returns-clause-err
returns-clause-err g c = same_so g.S.Shelf.honest c.snapshot.result c.args.state.now c.snapshot.new.self c.snapshot.ensures.err
