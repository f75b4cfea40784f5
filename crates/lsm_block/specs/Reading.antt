-- Reading a block from left to right: its entries, or the first fault.
use Rattle.std.specs.Prelude.{ℕ, zero, suc, ◌+◌, ◌-◌, ◌*◌, ◌&&◌, Bool, true, false, nat_lt, nat_le}
use Rattle.std.specs.Prelude.{◌==◌, if◌then◌else◌, List, [], ◌∷◌, ◌++◌, length, map, take, drop}
use Rattle.std.specs.Prelude.{Option, Some, None, Result, Ok, Err}
use Rattle.std.specs.List.{list_any}
use Rattle.std.specs.Ordering.{is_lt}
use Rattle.std.specs.Int.{w32, from_le_bytes}
use Rattle.lsm_codec.specs.declared.fault.CodecFault.{CodecFault}
use Rattle.lsm_codec.specs.Varint.{varint32_at}
use Rattle.lsm_codec.specs.Keys.{key_cmp, is_internal, key_at}
use Rattle.lsm_codec.specs.Entries.{Entry}
use Rattle.lsm_block.specs.declared.fault.BlockFault.{BlockFault}
use Rattle.lsm_block.specs.declared.fault.BlockFault.TheVariants.{BadRestarts, BadEntry, OutOfOrder}
use Rattle.lsm_block.specs.Block.{entry_of, start_at}

-- Whether a key comes after the key before it. Where no key was before, there are no bytes of one.
unfoldable pub comes_after : List ℕ → List ℕ → Bool
comes_after [] key = true
comes_after (b ∷ bs) key = is_lt (key_cmp (key_at (b ∷ bs)) (key_at key))

-- ---- entries

-- an entry as it is read: how much of its key it shares, its key and its value
pub record Piece : Type 0 where
  pub shared : ℕ
  pub key : List ℕ
  pub value : List ℕ

abbrev pub entry : Piece → Entry
entry p = entry_of (key_at p.key) p.value

infixl 10 ◌>>=◌
abbrev pub ◌>>=◌ : {A B : Type 0} → Option A → (A → Option B) → Option B
None >>= f = None
(Some x) >>= f = f x

abbrev pub found_of : Result (ℕ × List ℕ) CodecFault → Option (ℕ × List ℕ)
found_of (Ok x) = Some x
found_of (Err e) = None

abbrev pub number_at : List ℕ → Option (ℕ × List ℕ)
number_at bytes = found_of (varint32_at bytes)

-- the three numbers of an entry, and what follows them
unfoldable pub numbers_at : List ℕ → Option (ℕ × ℕ × ℕ × List ℕ)
numbers_at text = do
  shared ← number_at text
  unshared ← number_at shared.1
  len ← number_at unshared.1
  Some (shared.0, unshared.0, len.0, len.1)

abbrev pub shared_key : List ℕ → ℕ → ℕ → List ℕ → List ℕ
shared_key before shared unshared rest = take shared before ++ take unshared rest

-- the entry whose three numbers are read
unfoldable pub piece_of : List ℕ → ℕ → ℕ → ℕ → List ℕ → Option (Piece × List ℕ)
piece_of before shared unshared len rest =
    if nat_le shared (length before) && nat_le (unshared + len) (length rest)
    && is_internal (shared_key before shared unshared rest)
    then Some (
      record {
        shared = shared;
        key = shared_key before shared unshared rest;
        value = take
            len (drop unshared rest);
      },
      drop len (drop unshared rest),
    )
    else None

-- the entry at the front of a text, after the key before it, and what follows it
unfoldable pub entry_at : List ℕ → List ℕ → Option (Piece × List ℕ)
entry_at before text = numbers_at text >>= λ n. piece_of before n.0 n.1 n.2 n.3

-- a piece and where it stands
pub record PieceAt : Type 0 where
  pub offset : ℕ
  pub piece : Piece

-- what is read, and where nothing could be read
pub record Scan : Type 0 where
  pub placed : List PieceAt
  pub stop : Option ℕ

abbrev pub nothing : Option ℕ → Scan
nothing stop = record { placed = []; stop = stop }

-- a piece before those that come later, or the end
abbrev pub scan_on : ℕ → (Piece × List ℕ → Scan) → Option (Piece × List ℕ) → Scan
scan_on offset later None = nothing (Some offset)
scan_on offset later (Some found) =
    record {
      placed = record { offset = offset; piece = found.0 }
          ∷ (later found).placed;
      stop = (later found).stop;
    }

-- the pieces of the text, which ends where total bytes end
unfoldable pub scan : ℕ → ℕ → List ℕ → List ℕ → Scan
scan zero total before text = nothing None
scan (suc count) total before [] = nothing None
scan (suc count) total before (b ∷ bs) =
    scan_on (total - length (b ∷ bs)) (λ found.
    scan count total found.0.key found.1) (entry_at before (b ∷ bs))

-- the starts of the pieces that share nothing
unfoldable pub starts_of : List PieceAt → List ℕ
starts_of [] = []
starts_of (p ∷ ps) = start_at p.piece.shared p.offset ++ starts_of ps

-- the entries of pieces
abbrev pub entries_of : List PieceAt → List Entry
entries_of placed = map (λ p. entry p.piece) placed

-- ---- the restarts

-- numbers of four bytes
unfoldable pub words : ℕ → List ℕ → List ℕ
words zero bytes = []
words (suc count) bytes = from_le_bytes w32 (take 4 bytes) ∷ words count (drop 4 bytes)

-- the text of the entries, and the restart offsets
abbrev pub parts_of : List ℕ → ℕ → Option (List ℕ × List ℕ)
parts_of front count =
    if nat_le 1 count && nat_le (4 * count) (length front)
    then Some (
      take (length front
          - 4 * count) front,
      words count (drop (length front - 4 * count) front),
    )
    else None

unfoldable pub parts_at : List ℕ → Option (List ℕ × List ℕ)
parts_at bytes =
    if nat_le 4 (length bytes)
    then parts_of (take (length bytes
    - 4) bytes) (from_le_bytes w32 (drop (length bytes - 4) bytes))
    else None

-- A restart offset at or past the first entry that cannot be read is not judged.
abbrev pub is_judged : Option ℕ → ℕ → Bool
is_judged None offset = true
is_judged (Some stop) offset = nat_lt offset stop

abbrev pub if_judged : Bool → Bool → Bool
if_judged true test = test
if_judged false test = true

-- an offset after another
abbrev pub may_follow : Option ℕ → List ℕ → ℕ → ℕ → Bool
may_follow stop starts before offset =
    if_judged (is_judged stop offset) (nat_lt before offset && list_any (λ s. s == offset) starts)

-- offsets that rise from one on
unfoldable pub rises : Option ℕ → List ℕ → ℕ → List ℕ → Bool
rises stop starts before [] = true
rises stop starts before (offset ∷ offsets) =
    may_follow stop starts before offset && rises stop starts offset offsets

-- restart offsets that begin at 0 and rise strictly, each the start of an entry that shares nothing
abbrev pub restarts_fit : Option ℕ → List ℕ → List ℕ → Bool
restarts_fit stop starts [] = false
restarts_fit stop starts (offset ∷ offsets) =
    if_judged (is_judged stop offset) (offset == 0) && rises stop starts offset offsets

-- ---- the order

abbrev pub if_not : Bool → ℕ → Option ℕ → Option ℕ
if_not true offset later = later
if_not false offset later = Some offset

-- where the first entry stands that does not come after the one before it
unfoldable pub disorder : List ℕ → List PieceAt → Option ℕ
disorder before [] = None
disorder before (p ∷ ps) = if_not (comes_after before p.piece.key) p.offset
    (disorder p.piece.key ps)

-- ---- a block

abbrev pub entry_fault : Option ℕ → Option ℕ → Option BlockFault
entry_fault (Some offset) disorder = Some (BadEntry offset)
entry_fault None (Some offset) = Some (OutOfOrder offset)
entry_fault None None = None

abbrev pub restart_fault : Bool → Option BlockFault → Option BlockFault
restart_fault true later = later
restart_fault false later = Some BadRestarts

-- the first fault: of the restarts, then of the first entry that cannot be read, then of the order
abbrev pub first_fault : Scan → List ℕ → Option BlockFault
first_fault s restarts =
    restart_fault (restarts_fit s.stop (starts_of s.placed) restarts)
    (entry_fault s.stop (disorder [] s.placed))

abbrev pub unless : Option BlockFault → List Entry → Result (List Entry) BlockFault
unless None entries = Ok entries
unless (Some fault) entries = Err fault

abbrev pub judged : Scan → List ℕ → Result (List Entry) BlockFault
judged s restarts = unless (first_fault s restarts) (entries_of s.placed)

abbrev pub block_of : Option (List ℕ × List ℕ) → Result (List Entry) BlockFault
block_of None = Err BadRestarts
block_of (Some parts) = judged (scan (length parts.0) (length parts.0) [] parts.0) parts.1

-- the entries of a block, or the first fault
unfoldable pub block_at : List ℕ → Result (List Entry) BlockFault
block_at bytes = block_of (parts_at bytes)
