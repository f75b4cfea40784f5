use Rattle.std.proofs.Common.{◌≡◌, length}
use Rattle.lsm_codec.specs.KeyRef.{key_of}
use Rattle.lsm_verify.specs.CheckedFiles.{walked}
use Rattle.lsm_verify.proofs.span.walk_on.Given as goal

abbrev pub invariant-loop-value : goal.invariant-loop-value
invariant-loop-value l = walked l.last (key_of l.end) l.entries.last l.sequences l.entries.left ≡ walked l.fn.last (key_of l.end) l.fn.entries.last l.fn.sequences l.fn.entries.left

abbrev pub decreases-loop-value : goal.decreases-loop-value
decreases-loop-value l = length l.entries.left
