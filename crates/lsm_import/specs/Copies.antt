-- Tables that are copied as plain ones (LevelDB's `doc/impl.md` and `doc/table_format.md`; that a
-- copy keeps numbers, levels and keys is this project's rule).
use Rattle.std.specs.Prelude.{◌≡◌, ◌⊎◌, ℕ, ◌-◌, ◌^◌, ◌<◌, ◌≤◌, List, [], ◌∷◌, ◌++◌, length}
use Rattle.lsm_codec.specs.Lists.{Has}
use Rattle.lsm_codec.specs.Entries.{Entry}
use Rattle.lsm_shelf.specs.Asked.{Asked, Load, Put}
use Rattle.lsm_shelf.specs.Told.{Told}
use Rattle.lsm_shelf.specs.declared.shelf_fault.ShelfFault.{ShelfFault}
use Rattle.lsm_table.specs.Table.{IsImage}
use Rattle.lsm_table.specs.declared.table_options.TableOptions.{TableOptions}
use Rattle.lsm_manifest.specs.FileOrder.{TableFile}
use Rattle.lsm_manifest.specs.Replay.{FileAt}
use Rattle.lsm_inflate.specs.PackedTable.{IsPackedTable}
use Rattle.lsm_inflate.specs.PackedReading.{inflated_at}
use Rattle.lsm_inflate.specs.Reading.{Fails}
use Rattle.lsm_import.specs.declared.import_fault.ImportFault.{ImportFault}
use Rattle.lsm_import.specs.declared.import_fault.ImportFault.TheVariants.{OutOfMemory, Unread}
use Rattle.lsm_import.specs.declared.import_fault.ImportFault.TheVariants.{Packed, WrongRange}
use Rattle.lsm_import.specs.declared.import_fault.ImportFault.TheVariants.{Unwritten, TooLarge}
use Rattle.lsm_import.specs.declared.import_fault.ImportFault.TheVariants.{SequencesSpent}
use Rattle.lsm_import.specs.declared.import_fault.ImportFault.TheVariants.{NumbersSpent}
use Rattle.lsm_import.specs.declared.import_fault.ImportFault.TheVariants.{Replay}

-- `From` and `Into` say which images the two shelves hold under which numbers: the source a table
-- of these entries, whose blocks may be compressed, the target the plain table of just these. The
-- copy has the file's level, number and keys, and the size of the plain table.
pub record IsCopy (From Into : ℕ → List ℕ → Type 0) (file copy : FileAt) (entries : List Entry)
    : Type 0 where
  pub packed : List ℕ
  pub plain : List ℕ
  pub held : From file.file.number packed
  pub spelled : IsPackedTable packed entries
  pub image : IsImage entries file.file.smallest file.file.largest plain
  pub put : Into file.file.number plain
  pub level : copy.level ≡ file.level
  pub number : copy.file.number ≡ file.file.number
  pub size : copy.file.size ≡ length plain
  pub smallest : copy.file.smallest ≡ file.file.smallest
  pub largest : copy.file.largest ≡ file.file.largest

-- One copy for each file, in the same order; these are the entries of all.
abbrev pub AreCopies : (ℕ → List ℕ → Type 0) → (ℕ → List ℕ → Type 0) → List FileAt → List FileAt
    → List Entry → Type 0
AreCopies From Into [] [] es = es ≡ []
AreCopies From Into [] (c ∷ cs) es = ⊥
AreCopies From Into (f ∷ fs) [] es = ⊥
AreCopies From Into (f ∷ fs) (c ∷ cs) es =
    (own : List Entry) × (later : List Entry) × (es ≡ own ++ later) × IsCopy From Into f c own
    × AreCopies From Into fs cs later

-- Tables were put, and nothing else was changed there: no manifest was begun, so what was no
-- database is none.
pub record OnlyPuts (old new : Told) : Type 0 where
  pub place : new.place ≡ old.place
  pub gone : new.gone ≡ old.gone
  pub starts : new.starts ≡ old.starts
  pub written : new.written ≡ old.written

-- ---- refusals

-- the image spells entries, and their table begins or ends at another key than the file
abbrev pub HasOtherKeys : TableFile → List ℕ → Type 0
HasOtherKeys file packed = (es : List Entry) × IsPackedTable packed es
    × ((plain : List ℕ) → IsImage es file.smallest file.largest plain → ⊥)

-- Why the image of a file is not made plain: its first fault, unless memory ran out; or it has
-- other keys.
abbrev pub IsPackedRefusal : TableOptions → TableFile → List ℕ → ImportFault → Type 0
IsPackedRefusal options file packed OutOfMemory = ⊥
IsPackedRefusal options file packed (Unread number fault) = ⊥
IsPackedRefusal options file packed (Packed number fault) =
    (number ≡ file.number) × Fails fault (inflated_at options packed)
IsPackedRefusal options file packed (WrongRange number) =
    (number ≡ file.number) × HasOtherKeys file packed
IsPackedRefusal options file packed (Unwritten fault) = ⊥
IsPackedRefusal options file packed TooLarge = ⊥
IsPackedRefusal options file packed SequencesSpent = ⊥
IsPackedRefusal options file packed NumbersSpent = ⊥
IsPackedRefusal options file packed (Replay fault) = ⊥

-- Why a table is not put under this number: memory ran out, or the target refuses it.
abbrev pub IsPutRefusal : (Asked → ShelfFault → Type 0) → ℕ → List ℕ → ImportFault → Type 0
IsPutRefusal Denied number image OutOfMemory = Unit {0}
IsPutRefusal Denied number image (Unread n fault) = ⊥
IsPutRefusal Denied number image (Packed n fault) = ⊥
IsPutRefusal Denied number image (WrongRange n) = ⊥
IsPutRefusal Denied number image (Unwritten fault) = Denied (Put number image) fault
IsPutRefusal Denied number image TooLarge = ⊥
IsPutRefusal Denied number image SequencesSpent = ⊥
IsPutRefusal Denied number image NumbersSpent = ⊥
IsPutRefusal Denied number image (Replay fault) = ⊥

-- Why a file is not copied. `Unheld` and `Denied` say which calls the source and the target refuse
-- with which faults.
abbrev pub IsCopyRefusal : (ℕ → List ℕ → Type 0) → (Asked → ShelfFault → Type 0)
    → (Asked → ShelfFault → Type 0) → TableOptions → TableFile → ImportFault → Type 0
IsCopyRefusal From Unheld Denied options file OutOfMemory = Unit {0}
IsCopyRefusal From Unheld Denied options file (Unread number fault) =
    (number ≡ file.number) × Unheld (Load number) fault
IsCopyRefusal From Unheld Denied options file (Packed number fault) =
    (packed : List ℕ) × From file.number packed
    × IsPackedRefusal options file packed (Packed number fault)
IsCopyRefusal From Unheld Denied options file (WrongRange number) =
    (packed : List ℕ) × From file.number packed
    × IsPackedRefusal options file packed (WrongRange number)
IsCopyRefusal From Unheld Denied options file (Unwritten fault) =
    (plain : List ℕ) × Denied (Put file.number plain) fault
IsCopyRefusal From Unheld Denied options file TooLarge = ⊥
IsCopyRefusal From Unheld Denied options file SequencesSpent = ⊥
IsCopyRefusal From Unheld Denied options file NumbersSpent = ⊥
IsCopyRefusal From Unheld Denied options file (Replay fault) = ⊥

-- memory ran out, or one of the files is refused
abbrev pub AreNotCopied : (ℕ → List ℕ → Type 0) → (Asked → ShelfFault → Type 0)
    → (Asked → ShelfFault → Type 0) → TableOptions → List FileAt → ImportFault → Type 0
AreNotCopied From Unheld Denied options files fault = (fault ≡ OutOfMemory)
    ⊎ ((file : FileAt) × Has files file
    × IsCopyRefusal From Unheld Denied options file.file fault)

-- ---- free numbers

-- the number is at least the first one, and above those of all files
abbrev pub IsAbove : ℕ → List FileAt → ℕ → Type 0
IsAbove from files next = (from ≤ next)
    × ((file : FileAt) → Has files file → file.file.number < next)

-- a file has the last number
abbrev pub HasLastNumber : List FileAt → Type 0
HasLastNumber files = (file : FileAt) × Has files file × (file.file.number ≡ 2 ^ 64 - 1)
