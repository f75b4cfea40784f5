use Rattle.lsm_cmd_convert.proofs.PlayOutcomes.{ended_done, ended_refused, fault_refused}
use Rattle.lsm_cmd_convert.proofs.playing.program.script.Goals as goal

pub returns-in-Ok-clause-done : goal.returns-in-Ok-clause-done
returns-in-Ok-clause-done g c =
    ended_done (g.I.Read.remaining c.args.input.now.inner) c.in-Ok.status (g.O.Write.contents c.args.out.now) (g.O.Write.contents c.perform.new.out)
    c.in-Ok.ensures.ended

pub returns-in-Ok-clause-refused : goal.returns-in-Ok-clause-refused
returns-in-Ok-clause-refused g c =
    ended_refused (g.I.Read.remaining c.args.input.now.inner) c.perform.new.input.failed c.in-Ok.status (g.O.Write.contents c.args.out.now)
    (g.O.Write.contents c.perform.new.out) c.in-Ok.ensures.status c.in-Ok.ensures.ended

pub returns-in-Err-clause-refused : goal.returns-in-Err-clause-refused
returns-in-Err-clause-refused g c = λ other. (
  c.refuse.ensures,
  fault_refused (g.I.Read.remaining c.args.input.now.inner) c.perform.new.input.failed c.in-Err.fault (g.O.Write.contents c.args.out.now)
      (g.O.Write.contents c.perform.new.out) c.in-Err.ensures.fault c.in-Err.ensures.kept,
)
