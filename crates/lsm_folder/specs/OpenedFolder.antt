-- By which paths the files of a folder that was opened are found (this project's rule).
use Rattle.std.specs.Prelude.{◌≡◌, ◌⊎◌, ℕ, ℤ, List, ◌∷◌, ◌++◌, codes, string_bytes}
use Rattle.std.specs.Arc.{arc_value}
use Rattle.std.specs.Fd.{file_raw_fd}
use Rattle.std.specs.Fmt.{signed_decimal}
use Rattle.lsm_folder.specs.declared.opened_folder.OpenedFolder.{OpenedFolder}

-- where the system shows what is open under this number (`proc(5)`)
abbrev pub descriptor_path : ℤ → List ℕ
descriptor_path number = codes "/proc/self/fd/" ++ signed_decimal number

-- the folder is found by the descriptor that it keeps open, or by the path that was given
abbrev pub IsFoundBy : (given : List ℕ) → OpenedFolder → Type 0
IsFoundBy given folder =
    (string_bytes folder.path ≡ descriptor_path (file_raw_fd (arc_value folder.file)))
    ⊎ (string_bytes folder.path ≡ given)

-- both are found by one path, through one descriptor
abbrev pub IsAgain : (old new : OpenedFolder) → Type 0
IsAgain old new = (string_bytes new.path ≡ string_bytes old.path)
    × (arc_value new.file ≡ arc_value old.file)

-- the path of the file of this name in the folder
abbrev pub path_in : OpenedFolder → (name : List ℕ) → List ℕ
path_in folder name = string_bytes folder.path ++ (47 ∷ name)
