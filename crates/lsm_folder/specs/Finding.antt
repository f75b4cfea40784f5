-- Files that are found without being read (this project's rule).
use Rattle.std.specs.Prelude.{◌≡◌, ◌⊎◌, ℕ, List, ◌∷◌, ◌++◌, length, take, replicate, Ok, Err}
use Rattle.lsm_folder.specs.Calls.{Call, measured, loaded}
use Rattle.lsm_folder.specs.declared.folder_fault.FolderFault.{FolderFault}
use Rattle.lsm_shelf.specs.Place.{Place, in_memory, at_path}

-- a file of this name, with these bytes, was found: by one call it was measured, or read whole
abbrev pub Found : (name image : List ℕ) → (old new : List Call) → Type 0
Found name image old new = (new ≡ measured name (Ok (length image)) ∷ old)
    ⊎ (new ≡ loaded name (Ok image) ∷ old)

-- no file of this name was found: that one call was refused with this fault
abbrev pub Unfound : (name : List ℕ) → FolderFault → (old new : List Call) → Type 0
Unfound name fault old new = (new ≡ measured name (Err fault) ∷ old)
    ⊎ (new ≡ loaded name (Err fault) ∷ old)

-- the bytes, cut to this length, or filled to it with zeros
abbrev pub fitted : ℕ → List ℕ → List ℕ
fitted size bytes = take size (bytes ++ replicate size 0)

-- what the witness says that the files of a folder of the system hold
abbrev pub SystemHolds : ((folder name image : List ℕ) → Type 0) → Place → (name image : List ℕ)
    → Type 0
SystemHolds holds (in_memory images) name image = Unit {0}
SystemHolds holds (at_path path marks) name image = holds path name image
