use Rattle.std.proofs.Common.{length}
use Rattle.lsm_text.proofs.SpellingLaws.{HasTaken}
use Rattle.lsm_text.proofs.text_words.read_text.Given as goal

abbrev pub invariant-parts : goal.invariant-parts
invariant-parts l = HasTaken l.fn.word l.bytes.items l.rest

abbrev pub decreases-parts : goal.decreases-parts
decreases-parts l = length l.rest
