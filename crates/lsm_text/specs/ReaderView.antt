-- What a reader of a text list has still to read.
use Rattle.std.specs.Prelude.{◌≡◌, ℕ, ◌==◌, ⊤, Bool, true, false, cond, List, [], Option, Some}
use Rattle.std.specs.Prelude.{None, Result, Ok, Err, length}
use Rattle.lsm_codec.specs.Entries.{Entry}
use Rattle.lsm_text.specs.declared.entry_reader.EntryReader.{EntryReader}
use Rattle.lsm_text.specs.declared.entry_reader.LineFault.{LineFault}
use Rattle.lsm_text.specs.declared.entry_reader.LineFault.TheVariants.{BadLine, OutOfMemory}
use Rattle.lsm_text.specs.EntryList.{lines_of}
use Rattle.lsm_text.specs.EntryReading.{entries_at, in_front, may_follow}
use Rattle.lsm_text.specs.EntryView.{entry_of}

-- the entry read last, if there is one
abbrev pub before_of : EntryReader → Option Entry
before_of r = cond (r.line == 0) None (Some (entry_of r.entry))

-- the entries still to read, or the number of the first bad line
abbrev pub rest_of : EntryReader → Result (List Entry) ℕ
rest_of r = entries_at r.line (before_of r) (lines_of r.rest.now)

-- a step found an entry, or the end
abbrev pub Advances : Bool → EntryReader → EntryReader → Type 0
Advances true old new =
    (rest_of old ≡ in_front (entry_of new.entry) (rest_of new))
    × (may_follow (before_of old) (entry_of new.entry) ≡ true)
    × (before_of new ≡ Some (entry_of new.entry))
Advances false old new = rest_of old ≡ Ok []

-- a step met a bad line
abbrev pub Stops : LineFault → EntryReader → Type 0
Stops (BadLine i) old = rest_of old ≡ Err i
Stops OutOfMemory old = ⊤

-- how much is still to read
abbrev pub left_of : EntryReader → ℕ
left_of r = length r.rest.now
