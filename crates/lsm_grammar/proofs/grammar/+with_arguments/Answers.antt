use Rattle.std.proofs.Common.{List, map, subst, sym}
use Rattle.lsm_grammar.specs.Grammar.{IsShaped, with_rules}
use Rattle.lsm_grammar.specs.Pages.{rule_of_argument}
use Rattle.lsm_grammar.specs.declared.arguments.Argument.{Argument}
use Rattle.lsm_grammar.proofs.GrammarLaws.{first_and_rest, one_more}
use Rattle.lsm_grammar.proofs.grammar.+with_arguments.Goals as goal

pub returns-in_ok-command-in-len1-up : goal.returns-in_ok-command-in-len1-up
returns-in_ok-command-in-len1-up t c =
    λ app shape.
    subst (λ (l : List Argument). IsShaped c.with_arguments.result (with_rules app (map rule_of_argument l)))
    (sym (first_and_rest c.args.arguments.now _ c.in-len1-up.len_at_least))
    (c.with_arguments.ensures _ (one_more _ _ _ app _ c.in_ok-command-in-len1-up.ensures c.argument.ensures.rule c.argument.ensures.local shape))
