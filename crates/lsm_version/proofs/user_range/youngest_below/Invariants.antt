use Rattle.std.proofs.Common.{take, MatchOption}
use Rattle.lsm_version.specs.Reads.{IsYoungest, HasNoCandidate}
use Rattle.lsm_version.proofs.user_range.youngest_below.Given as goal

abbrev pub invariant-loop-table : goal.invariant-loop-table
invariant-loop-table g l = MatchOption l.best (HasNoCandidate l.user l.bound (take l.table-index l.level)) (λ t. IsYoungest l.user l.bound (take l.table-index l.level) t.now)
