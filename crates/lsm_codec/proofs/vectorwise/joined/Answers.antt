use Rattle.lsm_codec.proofs.LaneLaws.{lane_fits}
use Rattle.lsm_codec.proofs.VectorLaws.{in_four}
use Rattle.lsm_codec.proofs.vectorwise.joined.Goals as goal

pub returns : goal.returns
returns c =
    rw (c.absorb_strides.ensures, c.absorb_strides-farther.ensures)
    (rw (c.absorb_strides-far.ensures, c.absorb_strides-near.ensures)
    (in_four c.args.first c.args.second c.args.third c.args.fourth
    (λ i. lane_fits c.args.first i c.fits-first.1) (λ i. lane_fits c.args.second i c.fits-second.1)
    (λ i. lane_fits c.args.third i c.fits-third.1)
    (λ i. lane_fits c.args.fourth i c.fits-fourth.1)))
