use Rattle.std.proofs.Common.{refl, arith}
use Rattle.lsm_block.proofs.RestartLaws.{words-step, words-done}
use Rattle.lsm_block.proofs.walk.fault_at_last.Goals as goal

pub returns-then-offsets-ge4 : goal.returns-then-offsets-ge4
returns-then-offsets-ge4 c = let some = words-step c.args.offsets.now (omega arith) in rw some refl

pub returns-in-Some : goal.returns-in-Some
returns-in-Some c = let none = words-done c.args.offsets.now (omega arith) in rw (none, c.in-Some.is) refl

pub returns-in-None : goal.returns-in-None
returns-in-None c = let none = words-done c.args.offsets.now (omega arith) in rw (none, c.in-None.is) refl
