use Rattle.std.proofs.Common.{refl, arith}
use Rattle.lsm_block.specs.Walking.{passed}
use Rattle.lsm_block.proofs.RestartLaws.{words-done}
use Rattle.lsm_block.proofs.walk.pass.Goals as goal

pub returns-then-offsets-lt4 : goal.returns-then-offsets-lt4
unfolding passed
returns-then-offsets-lt4 c = let none = words-done c.args.offsets.now (omega arith) in rw none refl
