use Rattle.std.proofs.Common.{◌∙◌, sym}
use Rattle.lsm_cmd_read.proofs.SeenLaws.{fails_asked, fails_seeing_from, lies_asked, sees_from}
use Rattle.lsm_cmd_read.proofs.program.look_as_asked.Goals as goal

pub returns-then-sees_more-clause-done : goal.returns-then-sees_more-clause-done
returns-then-sees_more-clause-done g c =
    sees_from g.C.FolderCalls g.C.Mark.Mark c.look_seen_at.result c.args.line.now
    g.C.FindingCalls.holds _ _ _ _ (sym c.sees_more.ensures ∙ c.if-sees_more.true)
    c.look_seen_at.ensures.done

pub returns-then-sees_more-clause-refused : goal.returns-then-sees_more-clause-refused
returns-then-sees_more-clause-refused g c =
    fails_seeing_from g.C.FolderCalls g.C.Mark.Mark c.look_seen_at.result c.args.line.now
    g.C.FindingCalls.holds _ _ (sym c.sees_more.ensures ∙ c.if-sees_more.true)
    c.look_seen_at.ensures.refused

pub returns-in-Ok-clause-done : goal.returns-in-Ok-clause-done
returns-in-Ok-clause-done g c =
    lies_asked g.C.FolderCalls g.C.Mark.Mark c.args.line.now g.C.FindingCalls.holds _ _ _ _
    (sym c.sees_more.ensures ∙ c.if-sees_more.false)
    (rw c.in-Ok.is at c.look_as_it_lies.ensures.done)

pub returns-in-Err-clause-refused : goal.returns-in-Err-clause-refused
returns-in-Err-clause-refused g c =
    fails_asked g.C.FolderCalls g.C.Mark.Mark c.args.line.now g.C.FindingCalls.holds
    c.in-Err.fault _ _ (sym c.sees_more.ensures ∙ c.if-sees_more.false)
    (rw c.in-Err.is at c.look_as_it_lies.ensures.refused)
