-- Calls that look at a folder, and at no file's bytes; and what it tells of logs (this project's
-- rule).
use Rattle.std.specs.Prelude.{◌≡◌, ◌≢◌, ◌⊎◌, ℕ, List, [], ◌∷◌, ◌++◌, Result, Ok, Err, ⊤, codes, map}
use Rattle.std.specs.Prelude.{reverse, string_bytes}
use Rattle.std.specs.List.{flat_map}
use Rattle.std.specs.List.Sorted.{IsPermutation, IsSorted}
use Rattle.std.specs.Cmp.Lexicographic.{slice_cmp}
use Rattle.std.specs.Ordering.{nat_cmp}
use Rattle.lsm_codec.specs.Lists.{Has}
use Rattle.lsm_folder.specs.Calls.{Call, opened, made, wrote, appended, synced, folder_synced}
use Rattle.lsm_folder.specs.Calls.{renamed, removed, measured, read, loaded, listed, locked}
use Rattle.lsm_folder.specs.declared.folder_fault.FolderFault.{FolderFault}
use Rattle.lsm_folder.specs.declared.folder_fault.FolderFault.TheVariants.{Missing}
use Rattle.lsm_storage.specs.FolderFault.{device_of}
use Rattle.lsm_shelf.specs.declared.shelf_fault.ShelfFault.{ShelfFault}
use Rattle.lsm_shelf.specs.declared.shelf_fault.ShelfFault.TheVariants.{OutOfMemory}
use Rattle.lsm_folder.specs.declared.lock_kind.LockKind.TheVariants.{Shared}
use Rattle.lsm_directory.specs.Holding.{IsHeld, IsUnheld}
use Rattle.lsm_directory.specs.Logs.{AreThose}
use Rattle.lsm_directory.specs.declared.faults.directory_fault.DirectoryFault.{DirectoryFault}
use Rattle.lsm_directory.specs.declared.faults.directory_fault.DirectoryFault.TheVariants.{Shelf}
use Rattle.lsm_directory.specs.declared.folder.folder_file.FolderFile.{FolderFile}

-- it asks for the folder's names, or how many bytes a file has
abbrev pub IsLook : Call → Type 0
IsLook opened = ⊥
IsLook (made name bytes answer) = ⊥
IsLook (wrote name bytes answer) = ⊥
IsLook (appended name bytes answer) = ⊥
IsLook (synced name answer) = ⊥
IsLook (folder_synced answer) = ⊥
IsLook (renamed from to answer) = ⊥
IsLook (removed name answer) = ⊥
IsLook (measured name answer) = Unit {0}
IsLook (read name image offset len answer) = ⊥
IsLook (loaded name answer) = ⊥
IsLook (listed answer) = Unit {0}
IsLook (locked name kind answer) = ⊥

-- Between these moments a folder was asked for nothing else. The newest call stands first.
abbrev pub OnlyLooks : List Call → List Call → Type 0
OnlyLooks old new = (calls : List Call) × (new ≡ calls ++ old)
    × ((call : Call) → Has calls call → IsLook call)

-- ---- sizes

-- a name that ends like a log's
abbrev pub EndsLikeLog : List ℕ → Type 0
EndsLikeLog name = (front : List ℕ) × (name ≡ front ++ codes ".log")

-- a file's name, and what the folder answered when it was asked for the file's size
pub record Asked : Type 0 where
  pub name : List ℕ
  pub answer : Result ℕ FolderFault

-- the size was told, or the file is gone
abbrev pub IsSizeOrGone : Result ℕ FolderFault → Type 0
IsSizeOrGone (Ok size) = ⊤
IsSizeOrGone (Err fault) = fault ≡ Missing

-- the file with its size; none where no size was told
abbrev pub size_in : List ℕ → Result ℕ FolderFault → List (List ℕ × ℕ)
size_in name (Ok size) = (name, size) ∷ []
size_in name (Err fault) = []

-- the files of which a size was told, in their order
abbrev pub sized : List Asked → List (List ℕ × ℕ)
sized asked = flat_map (λ a. size_in a.name a.answer) asked

-- the calls after these questions, one after another
abbrev pub after : List Asked → List Call → List Call
after asked calls = reverse (map (λ a. measured a.name a.answer) asked) ++ calls

-- a file's name and size
abbrev pub named : FolderFile → List ℕ × ℕ
named file = (string_bytes file.name, file.size)

-- A file of this name is added with the size that the folder told, if the name ends like a log's
-- and the file is not gone. The folder was asked for nothing else.
abbrev pub AddsLog : (name : List ℕ) → (before files : List FolderFile) → (old new : List Call)
    → Type 0
AddsLog name before files old new =
    ((EndsLikeLog name → ⊥) × (files ≡ before) × (new ≡ old))
    ⊎ (EndsLikeLog name
    × ((answer : Result ℕ FolderFault) × IsSizeOrGone answer × (new ≡ measured name answer ∷ old)
    × (map named files ≡ map named before ++ size_in name answer)))

-- The folder was asked for the size of each file among these names that ends like a log's, in their
-- order, and for nothing else. These are the files with the sizes that it told, but for those that
-- were gone.
pub record AsksSizes (names : List (List ℕ)) (files : List FolderFile) (old new : List Call)
    : Type 0 where
  pub asked : List Asked
  pub logs : AreThose EndsLikeLog names (map (λ a. a.name) asked)
  pub answers : (a : Asked) → Has asked a → IsSizeOrGone a.answer
  pub calls : new ≡ after asked old
  pub told : map named files ≡ sized asked

-- The folder was asked for its names, and then so for sizes, in the order of names. These are the
-- files that it told.
pub record TellsLogs (files : List FolderFile) (old new : List Call) : Type 0 where
  pub names : List (List ℕ)
  pub ordered : List (List ℕ)
  pub same : IsPermutation names ordered
  pub ascending : IsSorted (slice_cmp nat_cmp) ordered
  pub sizes : AsksSizes ordered files (listed (Ok names) ∷ old) new

-- What a command that reads the logs of a folder asks before its tables: it holds the lock, and
-- then looks for logs.
abbrev pub TellsBeside : List FolderFile → List Call → List Call → Type 0
TellsBeside files old new = (mid : List Call) × IsHeld Shared old mid × TellsLogs files mid new

-- ---- refusals

-- the last of these looks was refused, and not since a file is gone
abbrev pub IsRefusedLook : ShelfFault → List Call → List Call → Type 0
IsRefusedLook e old new =
    (before : List Call) × (fault : FolderFault) × OnlyLooks old before × (fault ≢ Missing)
    × (e ≡ device_of fault)
    × ((new ≡ listed (Err fault) ∷ before)
    ⊎ ((name : List ℕ) × (new ≡ measured name (Err fault) ∷ before)))

-- memory was refused, or a look
abbrev pub LooksStopped : ShelfFault → List Call → List Call → Type 0
LooksStopped e old new = (e ≡ OutOfMemory) ⊎ IsRefusedLook e old new

-- the lock was not held, or a look beside the tables was refused
abbrev pub BesideStopped : DirectoryFault → List Call → List Call → Type 0
BesideStopped e old new =
    IsUnheld Shared e old new ⊎ ((mid : List Call) × IsHeld Shared old mid
    × ((fault : ShelfFault) × (e ≡ Shelf fault) × LooksStopped fault mid new))
