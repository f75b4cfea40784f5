-- The whole tables of a shelf become one table, which a new manifest names (LevelDB's
-- `db/repair.cc` begins a manifest of all tables too; that their entries are put into one table, at
-- level 6, is this project's rule).
use Rattle.std.specs.Prelude.{◌≡◌, ◌⊎◌, ℕ, ◌+◌, ◌-◌, ◌≤◌, ◌^◌, List, [], ◌∷◌, All, None, Some}
use Rattle.std.specs.Prelude.{codes, length, map}
use Rattle.std.specs.List.{flat_map}
use Rattle.lsm_codec.specs.Entries.{Entry}
use Rattle.lsm_codec.specs.Lists.{Has}
use Rattle.lsm_shelf.specs.Asked.{Asked, ListTables, Put}
use Rattle.lsm_shelf.specs.Told.{Becomes, Told, listing, putting}
use Rattle.lsm_shelf.specs.declared.shelf_fault.ShelfFault.{ShelfFault}
use Rattle.lsm_table.specs.Table.{IsImage}
use Rattle.lsm_table.specs.TableImage.{Imaged}
use Rattle.lsm_manifest.specs.EditFit.{Change}
use Rattle.lsm_manifest.specs.EditWriting.{edit_text}
use Rattle.lsm_manifest.specs.FileOrder.{TableFile}
use Rattle.lsm_manifest.specs.LogWriting.{record_text}
use Rattle.lsm_manifest.specs.Manifest.{IsManifest}
use Rattle.lsm_manifest.specs.Shape.{Form, IsReplayed}
use Rattle.lsm_version.specs.Versions.{IsSound, Levels}
use Rattle.lsm_import.specs.Copied.{usual}
use Rattle.lsm_repair.specs.Merging.{IsMerged, IsUnmerged}
use Rattle.lsm_repair.specs.OldManifest.{IsNotOld, IsOld}
use Rattle.lsm_repair.specs.Reading.{AreRead, AreUnread, Held, IsTableRead, TableRead}
use Rattle.lsm_repair.specs.declared.left_out.LeftOut.{LeftOut}
use Rattle.lsm_repair.specs.declared.mend_fault.MendFault.{MendFault}
use Rattle.lsm_repair.specs.declared.mend_fault.MendFault.TheVariants.{OutOfMemory, Unlisted}
use Rattle.lsm_repair.specs.declared.mend_fault.MendFault.TheVariants.{TooLarge, Unwritten}
use Rattle.lsm_repair.specs.declared.old_logs.OldLogs.{OldLogs}

-- ---- one table

-- it is the table of entries
abbrev pub IsTable : Imaged → Type 0
IsTable image = (made : List Entry) × IsImage made image.smallest image.largest image.bytes

-- its file
abbrev pub file_at : ℕ → Imaged → TableFile
file_at number image = record {
  number = number;
  size = length image.bytes;
  smallest = image.smallest;
  largest = image.largest;
}

-- the one edit of the manifest: the file at level 6; the log numbers are the old manifest's
abbrev pub edit_of : TableFile → OldLogs → ℕ → ℕ → Change
edit_of file logs next last = record {
  comparator = Some (codes "leveldb.BytewiseComparator");
  log = Some logs.log;
  prev_log = Some logs.prev_log;
  next = Some next;
  last = Some last;
  pointers = [];
  deleted = [];
  added = record { level = 6; file = file } ∷ [];
}

-- the manifest's bytes: its own number is the one behind the table's
abbrev pub manifest_of : ℕ → Imaged → OldLogs → ℕ → List ℕ
manifest_of number image logs last =
    record_text 0 (edit_text (edit_of (file_at number image) logs (number + 2) last))

-- what the edit comes to
abbrev pub shape_of : ℕ → Imaged → OldLogs → ℕ → Form
shape_of number image logs last = record {
  levels = [] ∷ [] ∷ [] ∷ [] ∷ [] ∷ [] ∷ (file_at number image ∷ []) ∷ [];
  pointers = None ∷ None ∷ None ∷ None ∷ None ∷ None ∷ None ∷ [];
  log = logs.log;
  prev_log = logs.prev_log;
  next = number + 2;
  last = last;
}

-- the version of it, as the tables of a registry that has just this one
abbrev pub levels_of : ℕ → Imaged → ℕ → Levels
levels_of number image last = record {
  tables = [] ∷ [] ∷ [] ∷ [] ∷ [] ∷ [] ∷ (record {
    index = 0;
    number = number;
    smallest = image.smallest;
    largest = image.largest;
    image = image.bytes;
  } ∷ []) ∷ [];
  pointers = None ∷ None ∷ None ∷ None ∷ None ∷ None ∷ None ∷ [];
  last = last;
}

-- ---- what a shelf is asked

-- nothing that lies there was changed
pub record ChangesNothing (was is : Told) : Type 0 where
  pub place : is.place ≡ was.place
  pub made : is.made ≡ was.made

-- One table was put at most, under this number, and nothing else that lies there was changed: none
-- was removed, and no manifest was begun.
pub record PutsAtMost (number : ℕ) (was is : Told) : Type 0 where
  pub place : is.place ≡ was.place
  pub made : (is.made ≡ was.made) ⊎ ((image : List ℕ) × (is.made ≡ Put number image ∷ was.made))

-- ---- all of them

-- The shelf listed its tables, and they were read: these are the entries of those that are whole,
-- which are so many, and these are left out.
pub record IsTakenIn (Given : ℕ → List ℕ → Type 0) (held : List Held) (left : List LeftOut)
    (whole : ℕ) (was is : Told) : Type 0 where
  pub numbers : List ℕ
  pub listed : Becomes (listing numbers was) is
  pub read : AreRead Given numbers held left
  pub counted : whole ≡ length numbers - length left

-- The shelf gave its old manifest, if there is one, with these logs; it listed its tables, and they
-- were read. The new one, of this number, has each entry of each whole one, and nothing else; it
-- was put last (`put_last`), and nothing else that lies there was changed. The manifest names just
-- it, its last sequence is the greatest, and the logs are those of the old one. So many tables are
-- whole, so many entries the new one has, and these are left out.
pub record IsMended (Given : ℕ → List ℕ → Type 0) (Denied : Asked → ShelfFault → Type 0)
    (number : ℕ) (manifest : List ℕ) (logs : OldLogs) (whole count : ℕ) (left : List LeftOut)
    (was is : Told) : Type 0 where
  pub begun : Told
  pub old : IsOld Denied logs was begun
  pub numbers : List ℕ
  pub mid : Told
  pub listed : Becomes (listing numbers begun) mid
  pub reads : List TableRead
  pub numbered : map (λ t. t.number) reads ≡ numbers
  pub each : All (IsTableRead Given) reads
  pub left_are : left ≡ flat_map (λ t. t.left) reads
  pub counted : whole ≡ length numbers - length left
  pub made : List Entry
  pub all : (t : TableRead) (e : Entry) → Has reads t → Has t.entries e → Has made e
  pub only : (e : Entry) → Has made e → (t : TableRead) × Has reads t × Has t.entries e
  pub entries : count ≡ length made
  pub image : Imaged
  pub table : IsImage made image.smallest image.largest image.bytes
  pub put : Given number image.bytes
  pub put_last : Becomes (putting number image.bytes mid) is
  pub last : ℕ
  pub reached : (e : Entry) → Has made e → e.seq ≤ last
  pub one : (e : Entry) × Has made e × (e.seq ≡ last)
  pub manifest_is : manifest ≡ manifest_of number image logs last
  pub spelled : IsManifest (manifest_of number image logs last)
      (edit_of (file_at number image) logs (number + 2) last ∷ []) 0
  pub replayed : IsReplayed (edit_of (file_at number image) logs (number + 2) last ∷ [])
      (shape_of number image logs last)
  pub sound : IsSound (levels_of number image last)

-- ---- refusals

-- memory ran out; or the tables were not listed, or not read
abbrev pub IsUntaken : (Asked → ShelfFault → Type 0) → MendFault → Type 0
IsUntaken Denied fault = (fault ≡ OutOfMemory)
    ⊎ (((e : ShelfFault) × (fault ≡ Unlisted e) × Denied ListTables e)
    ⊎ ((numbers : List ℕ) × AreUnread Denied numbers fault))

-- Why a table is not put under this number: memory ran out; or the shelf refuses it; or its first
-- or last key would pass 2^32 - 1 bytes.
abbrev pub IsUnput : (Asked → ShelfFault → Type 0) → ℕ → Imaged → MendFault → Type 0
IsUnput Denied number image fault =
    (fault ≡ OutOfMemory)
    ⊎ (((e : ShelfFault) × (fault ≡ Unwritten e) × Denied (Put number image.bytes) e)
    ⊎ ((fault ≡ TooLarge)
    × ((2 ^ 32 ≤ length image.smallest) ⊎ (2 ^ 32 ≤ length image.largest))))

-- The tables that the shelf listed last were read, and their table is not made, or not put.
pub record IsUnmade (Given : ℕ → List ℕ → Type 0) (Denied : Asked → ShelfFault → Type 0)
    (number : ℕ) (fault : MendFault) (was is : Told) : Type 0 where
  pub held : List Held
  pub left : List LeftOut
  pub whole : ℕ
  pub mid : Told
  pub taken : IsTakenIn Given held left whole was mid
  pub same_list : is.listed ≡ mid.listed
  pub why : IsUnmerged usual held fault
      ⊎ ((last : ℕ) × (count : ℕ) × (image : Imaged) × IsMerged held last count image
      × IsUnput Denied number image fault)

-- The old manifest was read, and tables were not, or no table came of them.
pub record IsUnmendedBehind (Given : ℕ → List ℕ → Type 0) (Denied : Asked → ShelfFault → Type 0)
    (number : ℕ) (fault : MendFault) (was is : Told) : Type 0 where
  pub logs : OldLogs
  pub begun : Told
  pub old : IsOld Denied logs was begun
  pub why : IsUntaken Denied fault ⊎ IsUnmade Given Denied number fault begun is

-- It was not read, or names another comparator; or so it was.
abbrev pub IsUnmended : (ℕ → List ℕ → Type 0) → (Asked → ShelfFault → Type 0) → ℕ → Told → Told
    → MendFault → Type 0
IsUnmended Given Denied number was is fault =
    IsNotOld Denied fault was is ⊎ IsUnmendedBehind Given Denied number fault was is
