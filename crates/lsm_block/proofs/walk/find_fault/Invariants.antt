use Rattle.std.proofs.Common.{◌≡◌, [], ◌/◌, ◌≤◌, None, length}
use Rattle.lsm_codec.proofs.CallerLemmas.{IsBytes}
use Rattle.lsm_block.specs.Reading.{words, scan, entries_of, first_fault}
use Rattle.lsm_block.specs.Walking.{fault_from}
use Rattle.lsm_block.specs.Held.{Kept, last_of, last_after}
use Rattle.lsm_block.proofs.walk.find_fault.Given as goal

abbrev pub invariant-loop-rest : goal.invariant-loop-rest
invariant-loop-rest l =
    (fault_from l.out l.last (words (length l.left / 4) l.left) l.key.items (scan (length l.rest) (length l.text) l.key.items l.rest)
    ≡ first_fault (scan (length l.text) (length l.text) [] l.text) (words (length l.offsets / 4) l.offsets))
    × IsBytes l.rest × (length l.rest ≤ length l.text) × Kept (last_of l.key.items) l.key.items
    × (last_after (last_of l.key.items) (entries_of (scan (length l.rest) (length l.text) l.key.items l.rest).placed)
    ≡ last_after None (entries_of (scan (length l.text) (length l.text) [] l.text).placed))

abbrev pub decreases-loop-rest : goal.decreases-loop-rest
decreases-loop-rest l = length l.rest
