use Rattle.std.specs.Prelude.{◌∷◌, [], codes}
use Rattle.lsm_grammar.specs.Requests.{word_of}
use Rattle.lsm_grammar.proofs.HelpLaws.{alone_good, alone_topic, named_good, named_topic, overview_asked, page_asked, shown, told}
use Rattle.lsm_grammar.proofs.laws.help_is_no_fault.Goals as goal

pub returns-clause-named : goal.returns-clause-named
returns-clause-named c = λ n. told (codes "help" ∷ word_of n ∷ []) (named_good n) (named_topic n)

pub returns-clause-behind : goal.returns-clause-behind
returns-clause-behind c = λ n. shown (word_of n ∷ codes "--help" ∷ []) (page_asked n)

pub returns-clause-alone : goal.returns-clause-alone
returns-clause-alone c = told (codes "help" ∷ []) alone_good alone_topic

pub returns-clause-option : goal.returns-clause-option
returns-clause-option c = shown (codes "--help" ∷ []) overview_asked
