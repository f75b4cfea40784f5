use Rattle.std.proofs.Common.{◌∙◌, ap, sym}
use Rattle.std.specs.Prelude.{is_some}
use Rattle.clap.specs.Words.{subcommand_rows_of}
use Rattle.lsm_grammar.proofs.HelpLines.{page_asked_for}
use Rattle.lsm_grammar.proofs.command_line.unasked.Goals as goal

pub returns-in-Some : goal.returns-in-Some
returns-in-Some c =
    page_asked_for c.help_on.result (subcommand_rows_of c.args.matches.now) c.help_on.ensures
    (ap is_some (sym c.topic_in.ensures ∙ c.in-Some.is))
