use Rattle.std.proofs.Common.{arith}
use Rattle.std.proofs.lemmas.Grind.{common_steps}
use Rattle.lsm_journal.proofs.Wholes.{change_ready}
use Rattle.lsm_journal.proofs.journal.Journal.change_edit.Goals as goal

pub returns-clause-fit : goal.returns-clause-fit
returns-clause-fit g c = change_ready _ c.args.self.now c.args.change.now c.args.next (grind (arith, common_steps)) c.last-last.ensures.fits
