use Rattle.lsm_cmd_shell.proofs.answering.answer.Goals as goal

pub returns : goal.returns
returns g c = let r = c.say_reply.ensures in (r.0, c.answer-reply.result, c.answer-reply.ensures.step, r.1, r.2)
