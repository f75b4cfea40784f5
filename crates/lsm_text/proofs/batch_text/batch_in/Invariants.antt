use Rattle.std.proofs.Common.{length}
use Rattle.lsm_text.proofs.BatchLaws.{HasRead}
use Rattle.lsm_text.proofs.batch_text.batch_in.Given as goal

abbrev pub invariant-lines : goal.invariant-lines
invariant-lines l = HasRead l.form l.text l.count l.batch l.rest

abbrev pub decreases-lines : goal.decreases-lines
decreases-lines l = length l.rest
