use Rattle.lsm_cmd_read.proofs.QuickLaws.{given_of_quick}
use Rattle.lsm_cmd_read.proofs.laws.quick_lines_are_whole.Goals as goal

pub returns : goal.returns
returns g c = given_of_quick g.C.FolderCalls g.C.Mark.Mark g.C.FindingCalls.holds
