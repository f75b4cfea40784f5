use Rattle.lsm_verify.proofs.ReachingFiles.{Walked}
use Rattle.lsm_verify.proofs.reaching.reaching.Given as goal

abbrev pub invariant-loop-table : goal.invariant-loop-table
invariant-loop-table l = Walked l.aged l.table-index l.greatest l.numbers.items
