use Rattle.lsm_cmd_read.proofs.SeenLaws.{asked_on, without_room}
use Rattle.lsm_directory.proofs.CallerLemmas.{stopped_by}
use Rattle.lsm_cmd_read.proofs.program.run_look.Goals as goal

pub returns-clause-done : goal.returns-clause-done
returns-clause-done g c =
    asked_on g.C.FolderCalls g.C.Mark.Mark c.look_as_asked-done.result
    c.status_of.result c.args.line.now g.C.FindingCalls.holds _ _ _ _ _ c.status_of.ensures.err
    c.look_as_asked-done.ensures.done
    c.status_of.ensures.quiet

pub returns-clause-refused : goal.returns-clause-refused
returns-clause-refused g c = stopped_by c.look_as_asked-done.result c.status_of.result _
    c.status_of.ensures.ok c.status_of.ensures.err c.look_as_asked-done.ensures.refused

pub returns-in-Err-clause-refused : goal.returns-in-Err-clause-refused
returns-in-Err-clause-refused g c = λ other. (
  c.refuse.ensures,
  without_room g.C.FolderCalls g.C.Mark.Mark c.args.line.now g.C.FindingCalls.holds
      (g.O.Write.contents c.args.out.now),
)
