use Rattle.std.proofs.Common.{arith, map, sym, true≢false}
use Rattle.lsm_frames.specs.OpeningView.{opened_of}
use Rattle.lsm_channels.specs.Serving.{End, end}
use Rattle.lsm_channels.proofs.RunLaws.{opening_refused}
use Rattle.lsm_channels.proofs.program.serve_asked.Goals as goal

pub returns-in-Ok-serve_at : goal.returns-in-Ok-serve_at
returns-in-Ok-serve_at g c = (opened_of c.in-Ok.opening, c.in-Ok.ensures.found, c.in-Ok-serve_at.ensures.open, c.in-Ok-serve_at.ensures.served, c.in-Ok-serve_at.ensures.opened)

pub refuse-wire-requires : goal.refuse-wire-requires
refuse-wire-requires g c =
    let fits = c.in-Ok.ensures.found.fits in
    let numbers = fits.descriptors in
    let some = fits.some_channel in
    record { number = omega (arith, numbers, some) }

pub returns-in-Err-serve_at : goal.returns-in-Err-serve_at
returns-in-Err-serve_at g c =
    let seen : g.row.D-Wire.Denot → End = λ w. end (g.D.Wire.Wire.descriptor w) (g.D.Wire.Wire.happened w) in
    opening_refused g.C.FolderCalls g.C.Mark.Mark g.D.Descriptors.says g.O.Door.refuses g.D.Wire.Wire.gives c.args.content.now (opened_of c.in-Ok.opening) _ _ (seen c.refuse-wire.result.0)
    (map seen c.refuse-wire.result.1.items) _ (g.D.Descriptors.opened c.args.descriptors.now) (g.D.Descriptors.opened c.serve_at.new.descriptors) (g.D.Descriptors.opened c.refuse-wire.new.descriptors)
    c.in-Ok.ensures.found c.in-Err-serve_at.ensures.refused c.in-Err-serve_at.ensures.door c.in-Err-serve_at.ensures.left c.refuse-wire.ensures

pub refuse_content-requires : goal.refuse_content-requires
refuse_content-requires g c = record { none = λ other opening. true≢false (sym (c.in-Err.ensures.only other opening).0) }
