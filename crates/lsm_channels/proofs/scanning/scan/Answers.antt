use Rattle.std.proofs.lemmas.Result.{IfOk-weaker}
use Rattle.lsm_frames.specs.Views.{stretch_of}
use Rattle.lsm_channels.proofs.SeenLaws.{promised, scan_ended, scan_refused, under}
use Rattle.lsm_channels.proofs.scanning.scan.Goals as goal

pub page_of-answer-requires-clause-promised : goal.page_of-answer-requires-clause-promised
page_of-answer-requires-clause-promised g c κs within = promised g.K.Invariant.keeps c.args.range.when c.args.taken.now c.args.reader c.in-Ok.view _ _ c.in-Ok.seq c.in-Ok.ensures.sees

pub returns-in-Ok-clause-scanned : goal.returns-in-Ok-clause-scanned
returns-in-Ok-clause-scanned g c = IfOk-weaker c.page_of-answer.result _ _
    (λ v shown. scan_ended g.S.Shelf.honest g.K.Invariant.keeps (stretch_of c.args.range) c.args.taken.now c.args.reader c.in-Ok.view c.page_of-answer.new.view c.end.result _ _ c.in-Ok.seq v.items
    c.in-Ok.ensures.sees c.page_of-answer.ensures.rest c.end.ensures shown)
    (under g.S.Shelf.honest c.page_of-answer.result _ c.page_of-answer.ensures.shown)

pub returns-in-Ok-clause-refused : goal.returns-in-Ok-clause-refused
returns-in-Ok-clause-refused g c = scan_refused g.S.Shelf.honest g.K.Invariant.keeps (stretch_of c.args.range) c.args.taken.now c.args.reader c.in-Ok.view c.page_of-answer.new.view c.end.result _ _ c.in-Ok.seq
    c.page_of-answer.result c.in-Ok.ensures.sees c.page_of-answer.ensures.rest c.end.ensures c.page_of-answer.ensures.refused c.page_of-answer.ensures.long
