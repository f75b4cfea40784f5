use Rattle.lsm_grammar.proofs.HelpLaws.{overview_asked, page_asked}
use Rattle.lsm_grammar.proofs.command_line.help_on.Goals as goal

pub page_of-requires : goal.page_of-requires
page_of-requires c = rw c.word.ensures (page_asked c.in-Some.name)

pub page_of-requires-in-None : goal.page_of-requires-in-None
page_of-requires-in-None c = overview_asked
