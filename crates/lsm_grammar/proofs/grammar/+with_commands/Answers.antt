use Rattle.std.proofs.Common.{List, subst, sym}
use Rattle.lsm_grammar.specs.Grammar.{IsShaped}
use Rattle.lsm_grammar.specs.Pages.{with_pages}
use Rattle.lsm_grammar.specs.declared.pages.Page.{Page}
use Rattle.lsm_grammar.proofs.GrammarLaws.{first_and_rest}
use Rattle.lsm_grammar.proofs.grammar.+with_commands.Goals as goal

pub returns-in_ok-lsm-in-len1-up : goal.returns-in_ok-lsm-in-len1-up
returns-in_ok-lsm-in-len1-up t c =
    λ app shape.
    subst (λ (l : List Page). IsShaped c.with_commands.result (with_pages app l))
    (sym (first_and_rest c.args.pages.now _ c.in-len1-up.len_at_least))
    (c.with_commands.ensures _ (c.in_ok-lsm-in-len1-up.ensures _ _ shape c.command.ensures))
