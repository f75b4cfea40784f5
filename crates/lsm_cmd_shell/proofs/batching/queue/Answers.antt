use Rattle.std.proofs.Common.{inl, inr, refl}
use Rattle.lsm_cmd_shell.proofs.BatchLaws.{large_is_too_large}
use Rattle.lsm_cmd_shell.proofs.batching.queue.Goals as goal

pub returns-in-Err-Large : goal.returns-in-Err-Large
returns-in-Err-Large g c =
    (_, inr (c.in-Err-Large.ensures.err, inl (refl, large_is_too_large c.args.buffer.now c.args.write (rw c.in-Err-Large.field-0-is at c.in-Err-Large.ensures.refused))), c.say_failed-in-Err-Large.ensures)
