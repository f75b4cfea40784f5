use Rattle.lsm_frames.specs.OpeningView.{opened_of}
use Rattle.lsm_channels.specs.Serving.{End, end}
use Rattle.lsm_channels.proofs.RunLaws.{asked_door, opened_back, unserved_open}
use Rattle.lsm_channels.proofs.program.serve_at.Goals as goal

pub returns-in-Err-clause-refused : goal.returns-in-Err-clause-refused
returns-in-Err-clause-refused g c = unserved_open g.C.FolderCalls g.C.Mark.Mark g.D.Descriptors.says g.O.Door.refuses (opened_of c.args.opening.now) c.in-Err.unserved.fault c.in-Err.ensures.refused

pub returns-in-Err-clause-door : goal.returns-in-Err-clause-door
returns-in-Err-clause-door g c = asked_door g.C.FolderCalls g.C.Mark.Mark g.O.Door.refuses (opened_of c.args.opening.now) c.in-Err.unserved.fault _ c.in-Err.ensures.refused

pub returns-in-Err-clause-left : goal.returns-in-Err-clause-left
returns-in-Err-clause-left g c =
    let seen : g.row.D-Wire.Denot → End = λ w. end (g.D.Wire.Wire.descriptor w) (g.D.Wire.Wire.happened w) in
    rw c.of-plan.ensures.channels at (
    opened_back seen c.in-Err.unserved.fault c.args.opening.now.first_channel c.of-plan.result.channels c.in-Ok.wires.items c.in-Err.unserved.wires.items (g.D.Descriptors.opened c.args.descriptors.now)
    (g.D.Descriptors.opened c.open_wires.new.descriptors) c.in-Err.ensures.back c.in-Ok.ensures.wires c.in-Ok.ensures.opened
    )

pub returns-in-Ok-serve_path-clause-open : goal.returns-in-Ok-serve_path-clause-open
returns-in-Ok-serve_path-clause-open g c = rw c.of-plan.ensures.channels at (c.are_open.ensures.open c.if-not-are_open.false)
