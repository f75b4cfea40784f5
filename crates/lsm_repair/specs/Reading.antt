-- Which tables of a shelf are whole, and their entries (LevelDB's `db/repair.cc` scans each table
-- too; that one is whole or left out is this project's rule).
use Rattle.std.specs.Prelude.{◌≡◌, ◌⊎◌, ℕ, List, [], ◌∷◌, ◌++◌, All, Err, false, map}
use Rattle.std.specs.List.{flat_map}
use Rattle.lsm_codec.specs.Entries.{Entry}
use Rattle.lsm_codec.specs.Lists.{Has}
use Rattle.lsm_shelf.specs.Asked.{Asked, Load}
use Rattle.lsm_shelf.specs.declared.shelf_fault.ShelfFault.{ShelfFault}
use Rattle.lsm_inflate.specs.PackedReading.{inflated_at}
use Rattle.lsm_inflate.specs.PackedTable.{IsPackedTable}
use Rattle.lsm_inflate.specs.Reading.{is_memory}
use Rattle.lsm_inflate.specs.declared.inflate_fault.InflateFault.{InflateFault}
use Rattle.lsm_import.specs.Copied.{usual}
use Rattle.lsm_repair.specs.declared.left_out.LeftOut.{LeftOut}
use Rattle.lsm_repair.specs.declared.mend_fault.MendFault.{MendFault}
use Rattle.lsm_repair.specs.declared.mend_fault.MendFault.TheVariants.{OutOfMemory, Unread}

-- an entry, with the number of the table that has it
pub record Held : Type 0 where
  pub number : ℕ
  pub entry : Entry

-- a table as it was read: its number, and its entries where it is whole; else why it is left out
pub record TableRead : Type 0 where
  pub number : ℕ
  pub entries : List Entry
  pub left : List LeftOut

-- `Given` says which images the shelf gave for which numbers. The table of this number is of just
-- these entries; its blocks may be Snappy's.
abbrev pub IsWhole : (ℕ → List ℕ → Type 0) → ℕ → List Entry → Type 0
IsWhole Given number entries = (image : List ℕ) × Given number image × IsPackedTable image entries

-- Why the table of this number is left out: its bytes are no table, with this first fault. Want of
-- memory is no such reason, and none is that the shelf does not give it.
pub record IsLeftOut (Given : ℕ → List ℕ → Type 0) (number : ℕ) (l : LeftOut) : Type 0 where
  pub named : l.file ≡ number
  pub image : List ℕ
  pub given : Given number image
  pub broken : inflated_at usual image ≡ Err l.fault
  pub no_want : is_memory l.fault ≡ false

-- It is whole, or left out, and then nothing of it is taken.
abbrev pub IsTableRead : (ℕ → List ℕ → Type 0) → TableRead → Type 0
IsTableRead Given t =
    ((t.left ≡ []) × IsWhole Given t.number t.entries)
    ⊎ ((t.entries ≡ []) × ((l : LeftOut) × (t.left ≡ l ∷ []) × IsLeftOut Given t.number l))

-- the entries of a table, with its number
abbrev pub held_at : ℕ → Entry → Held
held_at number e = record { number = number; entry = e }

abbrev pub held_of : TableRead → List Held
held_of t = map (held_at t.number) t.entries

-- The tables of these numbers were read, one after another: these are the entries of those that are
-- whole, and these are left out.
pub record AreRead (Given : ℕ → List ℕ → Type 0) (numbers : List ℕ) (entries : List Held)
    (left : List LeftOut) : Type 0 where
  pub reads : List TableRead
  pub numbered : map (λ t. t.number) reads ≡ numbers
  pub each : All (IsTableRead Given) reads
  pub entries_are : entries ≡ flat_map held_of reads
  pub left_are : left ≡ flat_map (λ t. t.left) reads

-- One more was read: its entries came behind those before, or it to those that are left out.
pub record ReadsNext (Given : ℕ → List ℕ → Type 0) (number : ℕ) (entries more : List Held)
    (left later : List LeftOut) : Type 0 where
  pub read : TableRead
  pub numbered : read.number ≡ number
  pub is : IsTableRead Given read
  pub added : more ≡ entries ++ held_of read
  pub left_too : later ≡ left ++ read.left

-- The image of the table of this number was read: it is of entries, which came behind those before;
-- or it is none, and the table came to those that are left out.
abbrev pub ReadsImage : ℕ → List ℕ → List Held → List Held → List LeftOut → List LeftOut → Type 0
ReadsImage number image entries more left later =
    ((es : List Entry) × IsPackedTable image es × (more ≡ entries ++ map (held_at number) es)
    × (later ≡ left))
    ⊎ ((fault : InflateFault) × (inflated_at usual image ≡ Err fault) × (is_memory fault ≡ false)
    × (more ≡ entries) × (later ≡ left ++ record { file = number; fault = fault } ∷ []))

-- ---- refusals

-- the shelf does not give the table of this number, or memory ran out
abbrev pub IsUnread : (Asked → ShelfFault → Type 0) → ℕ → MendFault → Type 0
IsUnread Denied number fault = (fault ≡ OutOfMemory)
    ⊎ ((e : ShelfFault) × (fault ≡ Unread number e) × Denied (Load number) e)

-- so it is of one of these numbers
abbrev pub AreUnread : (Asked → ShelfFault → Type 0) → List ℕ → MendFault → Type 0
AreUnread Denied numbers fault = (fault ≡ OutOfMemory)
    ⊎ ((number : ℕ) × Has numbers number × IsUnread Denied number fault)
