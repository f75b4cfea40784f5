use Rattle.std.proofs.Common.{inl}
use Rattle.lsm_folder.specs.Calls.{AreHonest}
use Rattle.lsm_opening.specs.Preparing.{IsPrepared, plainly}
use Rattle.lsm_database.proofs.RunLaws.{runs_at, shelf_on, unrun_at}
use Rattle.lsm_database.proofs.opening.run_at.Goals as goal

pub returns-in-Err-clause-refused : goal.returns-in-Err-clause-refused
returns-in-Err-clause-refused g c = inl c.in-Err.ensures.refused

pub returns-clause-ran : goal.returns-clause-ran
returns-clause-ran g c =
    let start = c.in-Ok.found.1.start in
    let logs = c.in-Ok.found.1.logs.items in
    runs_at g.C.FolderCalls c.run_on-run.result.0 c.args.path.now
    (g.P.Program.asks c.args.program (AreHonest g.C.FolderCalls.calls))
    (λ r es fs. g.P.Program.says c.args.program (AreHonest g.C.FolderCalls.calls) es fs r.0)
    (λ r. r.1.items)
    start logs c.over-shelf.result c.run_on-run.result.1
    (shelf_on g.C.FolderCalls c.args.path.now (IsPrepared plainly start logs) c.in-Ok.found.0 c.over-shelf.result c.in-Ok.ensures.prepared c.over-shelf.ensures.folder
    c.over-shelf.ensures.fresh)
    c.run_on-run.ensures.ran

pub returns-clause-refused : goal.returns-clause-refused
returns-clause-refused g c =
    let start = c.in-Ok.found.1.start in
    let logs = c.in-Ok.found.1.logs.items in
    unrun_at g.C.FolderCalls g.C.Mark.Mark c.run_on-run.result.0 c.args.path.now start logs c.over-shelf.result c.run_on-run.result.1
    (shelf_on g.C.FolderCalls c.args.path.now (IsPrepared plainly start logs) c.in-Ok.found.0 c.over-shelf.result c.in-Ok.ensures.prepared c.over-shelf.ensures.folder
    c.over-shelf.ensures.fresh)
    c.run_on-run.ensures.refused
