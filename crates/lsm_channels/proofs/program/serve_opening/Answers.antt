use Rattle.lsm_wire.specs.Happenings.{Came, CameMisfit, CameNone, CameUnheld}
use Rattle.lsm_channels.specs.Opening.{outcome_of}
use Rattle.lsm_channels.specs.Serving.{end}
use Rattle.lsm_channels.proofs.RunLaws.{content_came, nothing_came, seen_end}
use Rattle.lsm_channels.proofs.program.serve_opening.Goals as goal

pub returns-in-Content : goal.returns-in-Content
returns-in-Content g c =
    content_came g.C.FolderCalls g.C.Mark.Mark g.D.Descriptors.says g.O.Door.refuses g.D.Wire.Wire.gives c.in-Content.content.items _ (outcome_of (λ w. end (g.D.Wire.Wire.descriptor w) (g.D.Wire.Wire.happened w)) c.serve_content-ended.result)
    (g.D.Descriptors.opened c.args.descriptors.now) (g.D.Descriptors.opened c.wire-wire.new.self) (g.D.Descriptors.opened c.serve_content-ended.new.descriptors)
    (seen_end _ _ _ _ (Came c.in-Content.content.items) c.wire-wire.ensures.descriptor c.read.ensures.same c.wire-wire.ensures.new c.in-Content.ensures.noted) c.wire-wire.ensures.noted
    (rw c.deref.ensures.value at c.serve_content-ended.ensures)

pub returns-in-Misfit : goal.returns-in-Misfit
returns-in-Misfit g c =
    nothing_came g.C.FolderCalls g.C.Mark.Mark g.D.Descriptors.says g.O.Door.refuses g.D.Wire.Wire.gives CameMisfit _ (g.D.Descriptors.opened c.args.descriptors.now) (g.D.Descriptors.opened c.wire-wire.new.self) tt
    (seen_end _ _ _ _ CameMisfit c.wire-wire.ensures.descriptor c.read.ensures.same c.wire-wire.ensures.new c.in-Misfit.ensures.noted) c.wire-wire.ensures.noted

pub returns-in-End : goal.returns-in-End
returns-in-End g c =
    nothing_came g.C.FolderCalls g.C.Mark.Mark g.D.Descriptors.says g.O.Door.refuses g.D.Wire.Wire.gives CameNone _ (g.D.Descriptors.opened c.args.descriptors.now) (g.D.Descriptors.opened c.wire-wire.new.self) tt
    (seen_end _ _ _ _ CameNone c.wire-wire.ensures.descriptor c.read.ensures.same c.wire-wire.ensures.new c.in-End.ensures.noted) c.wire-wire.ensures.noted

pub returns-in-Unheld : goal.returns-in-Unheld
returns-in-Unheld g c =
    nothing_came g.C.FolderCalls g.C.Mark.Mark g.D.Descriptors.says g.O.Door.refuses g.D.Wire.Wire.gives CameUnheld _ (g.D.Descriptors.opened c.args.descriptors.now) (g.D.Descriptors.opened c.wire-wire.new.self) tt
    (seen_end _ _ _ _ CameUnheld c.wire-wire.ensures.descriptor c.read.ensures.same c.wire-wire.ensures.new c.in-Unheld.ensures.noted) c.wire-wire.ensures.noted
