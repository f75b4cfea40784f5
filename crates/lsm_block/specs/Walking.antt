-- One walk over the entries of a block and its restart offsets side by side.
use Rattle.std.specs.Prelude.{◌≡◌, ◌<◌, ◌≤◌, ◌-◌, ◌⊎◌, ℕ, zero, suc, ◌&&◌, Bool, true, false}
use Rattle.std.specs.Prelude.{nat_lt, nat_le, ◌==◌, if◌then◌else◌, List, [], ◌∷◌, ◌++◌, length}
use Rattle.std.specs.Prelude.{take, Option, Some, None}
use Rattle.std.specs.List.{list_all}
use Rattle.std.specs.Option.{option_map}
use Rattle.lsm_codec.specs.Keys.{is_internal}
use Rattle.lsm_block.specs.declared.entry.RawEntry.{RawEntry}
use Rattle.lsm_block.specs.declared.fault.BlockFault.{BlockFault}
use Rattle.lsm_block.specs.KeyParts.{IsBelowAt}
use Rattle.lsm_block.specs.declared.fault.BlockFault.TheVariants.{BadEntry}
use Rattle.lsm_block.specs.Reading.{Piece, Scan, entry_at, starts_of, rises, disorder, entry_fault}
use Rattle.lsm_block.specs.Reading.{restart_fault}

-- what is seen of an entry that was read: how much of its key is shared, its key, its value, and
-- what follows it
abbrev pub seen : Piece × List ℕ → ℕ × List ℕ × List ℕ × List ℕ
seen found = (found.0.shared, found.0.key, found.0.value, found.1)

-- the key of an entry as the code has it, after the key before it, and what is seen of the entry
abbrev pub raw_key : List ℕ → RawEntry → List ℕ
raw_key before e = take e.shared before ++ e.own.now

abbrev pub raw_seen : List ℕ → RawEntry → ℕ × List ℕ × List ℕ × List ℕ
raw_seen before e = (e.shared, raw_key before e, e.value.now, e.after.now)

-- An entry that has the last eight bytes of its key itself: it is read so after each key that has
-- as many bytes as it shares.
pub record ReadsOwn (before_len : ℕ) (text : List ℕ) (e : RawEntry) : Type 0 where
  pub within : e.shared ≤ before_len
  pub internal : is_internal e.own.now ≡ true
  pub read : (before : List ℕ) → e.shared ≤ length before
      → Some (raw_seen before e) ≡ option_map seen (entry_at before text)

-- Where the next key is below a user key, when the key before it is below at a place: there, if it
-- shares more than so many bytes, and else by its own bytes.
abbrev pub GoesOn : ℕ → ℕ → List ℕ → RawEntry → Type 0
GoesOn place next user e =
    ((place < e.shared) × (next ≡ place))
    ⊎ ((e.shared ≤ place)
    × IsBelowAt next (take e.shared user ++ take (length e.own.now - 8) e.own.now) user)

-- The offset before the walk, and those that are left: the first is passed where it is 0. Where it
-- is not, none follows it, since it does not rise above itself.
abbrev pub begun : List ℕ → ℕ × List ℕ
begun [] = (0, [])
begun (zero ∷ offsets) = (0, offsets)
begun (suc offset ∷ offsets) = (suc offset, suc offset ∷ offsets)

-- The restart offsets that are left, and the last one before them, when an entry that stands here
-- was read. An offset that is not beyond the entry has to be its own: it shares nothing then, and
-- the offset rises.
unfoldable pub passed : ℕ → List ℕ → ℕ → ℕ → Option (ℕ × List ℕ)
passed before [] start shared = Some (before, [])
passed before (offset ∷ offsets) start shared =
    if nat_lt start offset then Some (before, offset ∷ offsets)
    else (if (offset == start) && (shared == 0) && nat_lt before offset then Some (offset, offsets)
    else None)

abbrev pub if_none : Option ℕ → Option ℕ → Option ℕ
if_none None later = later
if_none (Some offset) later = Some offset

-- The first fault of what is left: where an entry before it was out of order, the last restart
-- offset that was passed and those that are left, the key before, and what is read from here on.
abbrev pub fault_from : Option ℕ → ℕ → List ℕ → List ℕ → Scan → Option BlockFault
fault_from out before offsets key later =
    restart_fault (rises later.stop (starts_of later.placed) before offsets)
    (entry_fault later.stop (if_none out (disorder key later.placed)))

-- the fault of a block whose reading stops here
abbrev pub fault_at_stop : ℕ → List ℕ → Option BlockFault
fault_at_stop start offsets = restart_fault (list_all (λ offset.
    nat_le start offset) offsets) (Some (BadEntry start))

abbrev pub is_nothing : List ℕ → Bool
is_nothing [] = true
is_nothing (offset ∷ offsets) = false

-- the fault of a block whose entries can all be read
abbrev pub fault_at_end : Option ℕ → List ℕ → Option BlockFault
fault_at_end out offsets = restart_fault (is_nothing offsets) (entry_fault None out)
