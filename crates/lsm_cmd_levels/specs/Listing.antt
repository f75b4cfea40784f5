-- What a folder tells of its files without opening one: this project's rule.
use Rattle.std.specs.Prelude.{◌≡◌, ◌⊎◌, ℕ, List, ◌∷◌, ◌++◌, Result, Ok, Err, ⊤, map}
use Rattle.std.specs.Cmp.Lexicographic.{slice_cmp}
use Rattle.std.specs.List.Sorted.{IsPermutation, IsSorted}
use Rattle.std.specs.Ordering.{nat_cmp}
use Rattle.lsm_codec.specs.Lists.{Has}
use Rattle.lsm_folder.specs.Calls.{Call, listed, measured}
use Rattle.lsm_folder.specs.declared.folder_fault.FolderFault.{FolderFault}
use Rattle.lsm_folder.specs.declared.folder_fault.FolderFault.TheVariants.{Failed, Missing}
use Rattle.lsm_directory.specs.Looking.{Asked, EndsLikeLog, after, named, size_in, sized}
use Rattle.lsm_directory.specs.declared.folder.folder_file.FolderFile.{FolderFile}

-- the file is gone, or is no log and no file with a size, as a pipe
abbrev pub IsWithout : (name : List ℕ) → FolderFault → Type 0
IsWithout name fault = (fault ≡ Missing) ⊎ ((fault ≡ Failed) × (EndsLikeLog name → ⊥))

-- the size of the file of this name was told, or it has none
abbrev pub IsAnswered : (name : List ℕ) → Result ℕ FolderFault → Type 0
IsAnswered name (Ok size) = ⊤
IsAnswered name (Err fault) = IsWithout name fault

-- The file of this name is added, if the folder told its size. It was asked for nothing else.
abbrev pub AddsFile : (name : List ℕ) → (before files : List FolderFile) → (old new : List Call)
    → Type 0
AddsFile name before files old new =
    (answer : Result ℕ FolderFault) × IsAnswered name answer × (new ≡ measured name answer ∷ old)
    × (map named files ≡ map named before ++ size_in name answer)

-- The folder was asked for the sizes of the files of these names, in their order, and for nothing
-- else. These are the files with the sizes that it told.
pub record AsksEach (names : List (List ℕ)) (files : List FolderFile) (old new : List Call)
    : Type 0 where
  pub asked : List Asked
  pub each : map (λ a. a.name) asked ≡ names
  pub answers : (a : Asked) → Has asked a → IsAnswered a.name a.answer
  pub calls : new ≡ after asked old
  pub told : map named files ≡ sized asked

-- The folder was asked for its names, and then so for the size of each, in the order of names.
pub record TellsFiles (files : List FolderFile) (old new : List Call) : Type 0 where
  pub names : List (List ℕ)
  pub ordered : List (List ℕ)
  pub same : IsPermutation names ordered
  pub ascending : IsSorted (slice_cmp nat_cmp) ordered
  pub sizes : AsksEach ordered files (listed (Ok names) ∷ old) new
