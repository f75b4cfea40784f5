use Rattle.std.proofs.Common.{◌≡◌, length}
use Rattle.std.specs.Option.{option_map}
use Rattle.lsm_codec.specs.KeyRef.{key_of}
use Rattle.lsm_block.specs.Held.{rest_of}
use Rattle.lsm_inflate.proofs.LoopLaws.{Adding}
use Rattle.lsm_inflate.proofs.packed_file.add_block.Given as goal

abbrev pub invariant-loop-value : goal.invariant-loop-value
invariant-loop-value l = Adding l.initial.table.options (option_map key_of l.bound) (key_of l.last) l.block l.cursor l.table.entries l.initial.table.entries × (l.table.options ≡ l.initial.table.options)

abbrev pub decreases-loop-value : goal.decreases-loop-value
decreases-loop-value l = length (rest_of l.block l.cursor)
