use Rattle.std.proofs.lemmas.Result.{err_from_is_err_and}
use Rattle.lsm_frames.specs.OpeningView.{opened_of}
use Rattle.lsm_channels.proofs.RunLaws.{barred, unbrought, unprepared}
use Rattle.lsm_channels.proofs.program.ready.Goals as goal

pub returns-in-Err-clause-refused : goal.returns-in-Err-clause-refused
returns-in-Err-clause-refused g c =
    unprepared g.C.FolderCalls g.C.Mark.Mark g.O.Door.refuses (opened_of c.args.opening.now)
    c.in-Err.fault c.in-Err.ensures.refused

pub returns-in_err-judge-clause-refused : goal.returns-in_err-judge-clause-refused
returns-in_err-judge-clause-refused g c =
    let p = err_from_is_err_and c.from_residual.result c.from_residual.ensures.1 in
    rw (p.1, p.2) (barred g.C.FolderCalls g.C.Mark.Mark g.O.Door.refuses
    (opened_of c.args.opening.now) c.in-Ok.found.1.start c.in-Ok.found.1.logs.items
    c.in-Ok.found.0 _ c.in_err-judge.ensures.refused c.in-Ok.ensures.prepared)

pub returns-in_err-bring_logs-clause-refused : goal.returns-in_err-bring_logs-clause-refused
returns-in_err-bring_logs-clause-refused g c =
    let p = err_from_is_err_and c.from_residual-in_err-bring_logs.result
    c.from_residual-in_err-bring_logs.ensures.1 in
    rw (p.1, p.2) (unbrought g.C.FolderCalls g.C.Mark.Mark g.O.Door.refuses
    (opened_of c.args.opening.now) c.in-Ok.found.1.start c.in-Ok.found.1.logs.items
    c.in-Ok.found.0 c.bring_logs.new.folder _ c.in_ok-judge.ensures.ok
    c.in-Ok.ensures.prepared c.in_err-bring_logs.ensures.refused)

pub returns-clause-ready : goal.returns-clause-ready
returns-clause-ready g c = record {
  found = c.in-Ok.found.0;
  at = c.in-Ok.ensures.prepared;
  brings = c.in_ok-bring_logs.ensures.done;
  same = c.bring_logs.ensures.place;
}
