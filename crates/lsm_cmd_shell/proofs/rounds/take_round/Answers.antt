use Rattle.lsm_script.specs.Steps.{stage}
use Rattle.lsm_cmd_shell.proofs.RoundLaws.{none_due, reserve_refused, round_done, round_refused}
use Rattle.lsm_cmd_shell.proofs.rounds.take_round.Goals as goal

pub returns-in-Err-clause-err : goal.returns-in-Err-clause-err
returns-in-Err-clause-err g c =
    reserve_refused g.S.Shelf.honest c.answer-reply.result c.in-Err.fault (stage c.args.state.now c.args.desk.now c.args.shelf.now) (stage c.answer-reply.new.state c.answer-reply.new.self c.answer-reply.new.shelf) c.in-Err.ensures.err
    c.answer-reply.ensures.step

pub returns-in_default-clause-none : goal.returns-in_default-clause-none
returns-in_default-clause-none g c = λ same.
    none_due g.S.Shelf.honest c.answer-reply.result c.in-Ok.reserved (stage c.args.state.now c.args.desk.now c.args.shelf.now) (stage c.answer-reply.new.state c.answer-reply.new.self c.answer-reply.new.shelf) c.in-Ok.ensures.ok.0
    c.answer-reply.ensures.step c.in-Ok.ensures.ok.1 (rw c.in_default.is at c.ticket_of.ensures.none)

pub returns-in-Ok-finish-clause-round : goal.returns-in-Ok-finish-clause-round
returns-in-Ok-finish-clause-round g c = λ same.
    round_done g.S.Shelf.honest c.answer-reply.result c.in-Ok.reserved c.in-Some.ticket (stage c.args.state.now c.args.desk.now c.args.shelf.now) (stage c.answer-reply.new.state c.answer-reply.new.self c.answer-reply.new.shelf)
    (stage c.finish.new.state c.finish.new.desk c.finish.new.shelf) c.in-Ok.ensures.ok.0 c.answer-reply.ensures.step c.in-Some.ensures.some (rw c.in-Ok-finish.is at c.finish.ensures.ok)

pub returns-clause-err : goal.returns-clause-err
returns-clause-err g c =
    round_refused g.S.Shelf.honest c.answer-reply.result c.in-Ok.reserved c.in-Some.ticket c.in-Err-finish.fault (stage c.args.state.now c.args.desk.now c.args.shelf.now)
    (stage c.answer-reply.new.state c.answer-reply.new.self c.answer-reply.new.shelf) (stage c.finish.new.state c.finish.new.desk c.finish.new.shelf) c.in-Ok.ensures.ok.0 c.answer-reply.ensures.step c.in-Some.ensures.some
    (rw c.in-Err-finish.is at c.finish.ensures.err)
