use Rattle.std.proofs.Common.{length}
use Rattle.lsm_grammar.proofs.BenchmarkLaws.{HasNamed}
use Rattle.lsm_grammar.proofs.benchmarks.benchmarks_in.Given as goal

abbrev pub invariant-names : goal.invariant-names
invariant-names l = HasNamed l.word l.found.items l.rest

abbrev pub decreases-names : goal.decreases-names
decreases-names l = length l.rest
