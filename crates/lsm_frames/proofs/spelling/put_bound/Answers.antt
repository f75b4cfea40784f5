use Rattle.std.proofs.Common.{arith}
use Rattle.lsm_frames.proofs.HeldLaws.{length-value}
use Rattle.lsm_frames.proofs.spelling.put_bound.Goals as goal

pub returns-then-key-gt-MOST_REQUEST-clause-long : goal.returns-then-key-gt-MOST_REQUEST-clause-long
returns-then-key-gt-MOST_REQUEST-clause-long c = λ _. rw c.in-Some.is (omega (arith, c.if-key-gt-MOST_REQUEST.true, length-value c.in-Some.key.now))
