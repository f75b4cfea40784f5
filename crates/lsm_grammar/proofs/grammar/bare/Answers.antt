use Rattle.std.proofs.Common.{rules}
use Rattle.lsm_grammar.specs.Grammar.{bare}
use Rattle.lsm_grammar.proofs.grammar.bare.Goals as goal

pub returns : goal.returns
unfolding bare
returns c = search rules
