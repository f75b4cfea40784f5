use Rattle.std.proofs.Common.{false, true, inl, inr, map}
use Rattle.lsm_requests.specs.Inputs.{text_in}
use Rattle.lsm_commands.proofs.ComparedLaws.{compared, followed, unfollowed}
use Rattle.lsm_commands.proofs.StatusLaws.{not_done}
use Rattle.lsm_commands.proofs.running.run.Goals as goal

pub returns-then-manner-clause-done : goal.returns-then-manner-clause-done
returns-then-manner-clause-done g c = λ zero.
    inr (inl (compared
    g.D.FolderCalls
    g.D.Mark.Mark
    g.D.FindingCalls.holds
    c.requires.honest
    (text_in (g.I.Read.remaining c.args.input) (g.Q.Paths.text c.args.compared.now))
    (map g.S.AsStr.text c.args.words.now)
    c.in-Ok-Run.request
    c.in-Ok-Run.manner
    (rw c.in-Ok-Run.field-0-is at c.in-Ok-Run.ensures)
    c.if-manner.true
    (g.O.Write.contents c.args.out.now)
    (g.O.Write.contents c.follow.new.out)
    (g.E.Write.contents c.args.err.now)
    (g.E.Write.contents c.follow.new.err)
    (c.follow.ensures.done zero)))

pub returns-then-manner-clause-refused : goal.returns-then-manner-clause-refused
returns-then-manner-clause-refused g c = λ one.
    inr (inl (unfollowed
    g.D.FolderCalls
    g.D.Mark.Mark
    g.D.FindingCalls.holds
    true
    (text_in (g.I.Read.remaining c.args.input) (g.Q.Paths.text c.args.compared.now))
    (map g.S.AsStr.text c.args.words.now)
    c.in-Ok-Run.request
    c.in-Ok-Run.manner
    (rw c.in-Ok-Run.field-0-is at c.in-Ok-Run.ensures)
    c.if-manner.true
    (g.O.Write.contents c.args.out.now)
    (g.O.Write.contents c.follow.new.out)
    (c.follow.ensures.refused (not_done c.follow.result one)).1))

pub returns-in-Ok-Run-clause-done : goal.returns-in-Ok-Run-clause-done
returns-in-Ok-Run-clause-done g c = λ zero.
    inl (followed
    g.C.FolderCalls
    g.C.Mark.Mark
    g.C.FindingCalls.holds
    false
    (text_in (g.I.Read.remaining c.args.input) (g.P.Paths.text c.args.paths.now))
    (map g.S.AsStr.text c.args.words.now)
    c.in-Ok-Run.request
    c.in-Ok-Run.manner
    (rw c.in-Ok-Run.field-0-is at c.in-Ok-Run.ensures)
    c.if-manner.false
    (g.O.Write.contents c.args.out.now)
    (g.O.Write.contents c.follow-else-manner.new.out)
    (g.E.Write.contents c.args.err.now)
    (g.E.Write.contents c.follow-else-manner.new.err)
    (c.follow-else-manner.ensures.done zero))

pub returns-in-Ok-Run-clause-refused : goal.returns-in-Ok-Run-clause-refused
returns-in-Ok-Run-clause-refused g c = λ one.
    inl (unfollowed
    g.C.FolderCalls
    g.C.Mark.Mark
    g.C.FindingCalls.holds
    false
    (text_in (g.I.Read.remaining c.args.input) (g.P.Paths.text c.args.paths.now))
    (map g.S.AsStr.text c.args.words.now)
    c.in-Ok-Run.request
    c.in-Ok-Run.manner
    (rw c.in-Ok-Run.field-0-is at c.in-Ok-Run.ensures)
    c.if-manner.false
    (g.O.Write.contents c.args.out.now)
    (g.O.Write.contents c.follow-else-manner.new.out)
    (c.follow-else-manner.ensures.refused (not_done c.follow-else-manner.result one)).1)
