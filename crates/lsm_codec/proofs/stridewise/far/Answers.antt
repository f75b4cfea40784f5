use Rattle.lsm_codec.proofs.WordLaws.{far_word}
use Rattle.lsm_codec.proofs.stridewise.far.Goals as goal

pub returns : goal.returns
returns c = rw (c.skip_7.ensures, c.skip_6.ensures, c.skip_5.ensures, c.skip_4.ensures, c.skip_3.ensures, c.skip_2.ensures, c.skip_1.ensures, c.skip_0.ensures) (far_word c.args.word)
