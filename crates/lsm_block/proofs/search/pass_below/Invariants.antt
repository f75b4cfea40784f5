use Rattle.std.proofs.Common.{◌-◌, length}
use Rattle.lsm_codec.specs.KeyRef.{key_of}
use Rattle.lsm_block.proofs.PassLaws.{Passed}
use Rattle.lsm_block.proofs.search.pass_below.Given as goal

abbrev pub invariant-loop-offset : goal.invariant-loop-offset
invariant-loop-offset l = Passed l.text l.start (key_of l.key) l.offset l.len l.place

abbrev pub decreases-loop-offset : goal.decreases-loop-offset
decreases-loop-offset l = length l.text - l.offset
