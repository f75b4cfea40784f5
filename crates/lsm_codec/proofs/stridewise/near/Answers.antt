use Rattle.lsm_codec.proofs.WordLaws.{near_word}
use Rattle.lsm_codec.proofs.stridewise.near.Goals as goal

pub returns : goal.returns
returns c = rw (c.at_7.ensures, c.at_6.ensures, c.at_5.ensures, c.at_4.ensures, c.at_3.ensures, c.at_2.ensures, c.at_1.ensures, c.at_0.ensures) (near_word c.args.word)
