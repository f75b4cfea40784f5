use Rattle.lsm_script.proofs.WordLaws.{HasParted, texts}
use Rattle.lsm_script.proofs.words.words_in.Given as goal

abbrev pub invariant-loop-i : goal.invariant-loop-i
invariant-loop-i l = HasParted l.line l.start l.i (texts l.words.items)
