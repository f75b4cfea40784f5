use Rattle.std.proofs.Common.{length}
use Rattle.lsm_text.proofs.number.+digits.Given as goal

abbrev pub decreases-digits : goal.decreases-digits
decreases-digits l = length l.word.now
