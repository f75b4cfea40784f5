use Rattle.std.proofs.Common.{length, ap, arith}
use Rattle.lsm_text.proofs.SpellingLaws.{spelled-is, word_clear, word_one, word_some}
use Rattle.lsm_text.proofs.laws.one_word.Goals as goal

pub returns-clause-printed : goal.returns-clause-printed
returns-clause-printed c = spelled-is

pub returns-clause-bytes : goal.returns-clause-bytes
returns-clause-bytes c = word_one

pub returns-clause-clear : goal.returns-clause-clear
returns-clause-clear c = word_clear

pub returns-clause-some : goal.returns-clause-some
returns-clause-some c = λ form word bytes h e. omega (arith, word_some form word bytes h, ap length e)
