use Rattle.lsm_codec.proofs.WordLaws.{joined_four}
use Rattle.lsm_codec.proofs.stridewise.joined.Goals as goal

pub returns : goal.returns
returns c =
    rw (c.near.ensures, c.near-third.ensures, c.near-second.ensures, c.near-first.ensures)
    (joined_four c.args.state.first c.args.state.second c.args.state.third c.args.state.fourth)
