use Rattle.std.proofs.Common.{◌∙◌, arith}
use Rattle.lsm_codec.proofs.LaneLaws.{lane_fits}
use Rattle.lsm_codec.proofs.VectorLaws.{in_parts, slid, tables_spread}
use Rattle.lsm_codec.proofs.vectorwise.slide.Goals as goal

pub returns : goal.returns
returns c =
    let a = c.args.first in
    let block = c.args.block.now in
    rw (c.spread.ensures, c.spread-2.ensures, c.spread-3.ensures, c.spread-4.ensures)
    (rw c.load.ensures
    (in_parts block _ (λ i. omega (arith, c.type_inv.block i))
    ∙ slid _ _ _ _ tables_spread a c.args.second c.args.third c.args.fourth block
    (λ i. lane_fits a i c.fits-first.1) c.fits-first.0 c.fits-second.0 c.fits-third.0
    c.fits-fourth.0 c.requires))
