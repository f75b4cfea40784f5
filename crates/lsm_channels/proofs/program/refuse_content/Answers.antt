use Rattle.std.proofs.Common.{List, ap, arith, map, refl}
use Rattle.lsm_channels.specs.Serving.{End, end}
use Rattle.lsm_channels.proofs.RunLaws.{content_past, content_refused, content_short}
use Rattle.lsm_channels.proofs.program.refuse_content.Goals as goal

pub returns-then-first-gt2147483647 : goal.returns-then-first-gt2147483647
returns-then-first-gt2147483647 g c =
    content_past g.C.FolderCalls g.C.Mark.Mark g.D.Descriptors.says g.O.Door.refuses
    g.D.Wire.Wire.gives c.args.content.now c.in-Some.first
    (g.D.Descriptors.opened c.args.descriptors.now) _ c.requires.none
    c.in-Some.ensures.some (omega arith) refl

pub returns-else-first-gt2147483647 : goal.returns-else-first-gt2147483647
returns-else-first-gt2147483647 g c =
    let seen : g.row.D-Wire.Denot → End = λ w. end (g.D.Wire.Wire.descriptor w) (g.D.Wire.Wire.happened w) in
    content_refused g.C.FolderCalls g.C.Mark.Mark g.D.Descriptors.says g.O.Door.refuses
    g.D.Wire.Wire.gives c.args.content.now c.in-Some.first (map seen c.new-wires.result.items)
    (seen c.refuse-wire.result.0)
    (map seen c.refuse-wire.result.1.items) (g.D.Descriptors.opened c.args.descriptors.now)
    (g.D.Descriptors.opened c.refuse-wire.new.descriptors) c.requires.none c.in-Some.ensures.some
    (ap (λ (ws : List g.row.D-Wire.Denot). map seen ws) c.new-wires.ensures.items)
    c.refuse-wire.ensures

pub returns-in-None : goal.returns-in-None
returns-in-None g c =
    content_short g.C.FolderCalls g.C.Mark.Mark g.D.Descriptors.says g.O.Door.refuses
    g.D.Wire.Wire.gives c.args.content.now (g.D.Descriptors.opened c.args.descriptors.now) _
    c.requires.none c.in-None.ensures.none refl
