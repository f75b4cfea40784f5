use Rattle.std.proofs.lemmas.Result.{IfOk-weaker}
use Rattle.lsm_channels.proofs.SeenLaws.{promised, read_ended, read_refused, under}
use Rattle.lsm_channels.proofs.reading.read.Goals as goal

pub values_of-answer-requires-clause-promised : goal.values_of-answer-requires-clause-promised
values_of-answer-requires-clause-promised g c κs within = promised g.K.Invariant.keeps c.args.when c.args.taken.now c.args.reader c.in-Ok.view _ _ c.in-Ok.seq c.in-Ok.ensures.sees

pub returns-in-Ok-clause-read : goal.returns-in-Ok-clause-read
returns-in-Ok-clause-read g c = IfOk-weaker c.values_of-answer.result _ _
    (λ v said. read_ended g.S.Shelf.honest g.K.Invariant.keeps c.args.when c.args.keys c.args.taken.now c.args.reader c.in-Ok.view c.values_of-answer.new.view c.end.result _ _ c.in-Ok.seq v.items
    c.in-Ok.ensures.sees c.values_of-answer.ensures.rest c.end.ensures said)
    (under g.S.Shelf.honest c.values_of-answer.result _ c.values_of-answer.ensures.values)

pub returns-in-Ok-clause-refused : goal.returns-in-Ok-clause-refused
returns-in-Ok-clause-refused g c = read_refused g.S.Shelf.honest g.K.Invariant.keeps c.args.when c.args.keys c.args.taken.now c.args.reader c.in-Ok.view c.values_of-answer.new.view c.end.result _ _ c.in-Ok.seq
    c.values_of-answer.result c.in-Ok.ensures.sees c.values_of-answer.ensures.rest c.end.ensures c.values_of-answer.ensures.refused c.values_of-answer.ensures.long
