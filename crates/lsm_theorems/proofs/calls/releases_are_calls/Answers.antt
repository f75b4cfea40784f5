use Rattle.lsm_theorems.proofs.CallSteps.{release_so, same_so}
use Rattle.lsm_theorems.proofs.calls.releases_are_calls.Goals as goal

pub returns-clause-ok : goal.returns-clause-ok
returns-clause-ok g c = release_so g.S.Shelf.honest c.release.result c.args.state.now c.release.new.self c.args.id c.release.ensures.ok c.release.ensures.event

pub returns-clause-err : goal.returns-clause-err
returns-clause-err g c = same_so g.S.Shelf.honest c.release.result c.args.state.now c.release.new.self c.release.ensures.err
