use Rattle.lsm_cmd_convert.proofs.AnswerLaws.{begun_known, explained_known}
use Rattle.lsm_cmd_convert.proofs.converting.perform.Goals as goal

pub returns-clause-explained : goal.returns-clause-explained
returns-clause-explained g c =
    explained_known c.args.conversion c.write_answer.result (g.R.Read.remaining c.args.input.now) c.in_ok-bytes.bytes.items c.in_ok-bytes.ensures.found c.write_answer.ensures.explained

pub returns-clause-begun : goal.returns-clause-begun
returns-clause-begun g c =
    begun_known c.args.conversion c.write_answer.result (g.R.Read.remaining c.args.input.now) c.in_ok-bytes.bytes.items
    (g.O.Write.contents c.args.out.now) (g.O.Write.contents c.write_answer.new.out) c.in_ok-bytes.ensures.found c.write_answer.ensures.begun
