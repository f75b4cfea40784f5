use Rattle.std.proofs.Common.{◌≡◌, ◌-◌, length, drop}
use Rattle.lsm_block.specs.Seeking.{readable, not_below}
use Rattle.lsm_codec.specs.KeyRef.{key_of}
use Rattle.lsm_block.specs.Held.{Kept, last_of}
use Rattle.lsm_block.proofs.search.scan_on.Given as goal

abbrev pub invariant-loop-offset : goal.invariant-loop-offset
invariant-loop-offset l =
    (not_below (key_of l.key) (readable (length l.text) l.before.items (drop l.offset l.text))
    ≡ not_below (key_of l.key) (readable (length l.text) l.fn.before.items
    (drop l.start l.text)))
    × Kept (last_of l.before.items) l.before.items

abbrev pub decreases-loop-offset : goal.decreases-loop-offset
decreases-loop-offset l = length l.text - l.offset
