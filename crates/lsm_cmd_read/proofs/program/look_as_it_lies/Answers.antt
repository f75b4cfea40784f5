use Rattle.lsm_cmd_read.proofs.QuickLaws.{lies_from_whole, fails_from_whole}
use Rattle.lsm_cmd_read.proofs.program.look_as_it_lies.Goals as goal

pub returns-clause-done : goal.returns-clause-done
returns-clause-done g c = lies_from_whole g.C.FolderCalls g.C.Mark.Mark g.C.FindingCalls.holds
    c.look_at.result c.args.line.now _ _ _ _ c.look_at.ensures.done

pub returns-clause-refused : goal.returns-clause-refused
returns-clause-refused g c = fails_from_whole g.C.FolderCalls g.C.Mark.Mark g.C.FindingCalls.holds
    c.look_at.result c.args.line.now _ _ c.look_at.ensures.refused
