use Rattle.std.proofs.Common.{◌≡◌, ◌++◌, length, map}
use Rattle.lsm_repair.specs.Reading.{held_at}
use Rattle.lsm_repair.proofs.reading.add_entries.Given as goal

-- the entries so far, and those that are left, are all
abbrev pub invariant-loop-walk : goal.invariant-loop-walk
invariant-loop-walk l =
    l.entries.items ++ map (held_at l.number) l.walk.left
    ≡ l.fn.entries.items ++ map (held_at l.number) l.table

abbrev pub decreases-loop-walk : goal.decreases-loop-walk
decreases-loop-walk l = length l.walk.left
