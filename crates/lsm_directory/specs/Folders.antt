-- The folders of a run: this project's rule. `folders` has what contracts see of folders of a type
-- `C`, `marks` of the marks that they give for files. A program that is generic in `C` has a value
-- of it only where it opened a folder.
use Rattle.std.specs.Prelude.{◌≡◌, ℕ, List, [], ◌∷◌}
use Rattle.lsm_folder.specs.Calls.{Call, opened}
use Rattle.lsm_folder.specs.declared.folder_calls.FolderCalls.{Ghosts}
use Rattle.lsm_folder.specs.declared.mark.Mark as mark
use Rattle.lsm_shelf.specs.Place.{IsAtPath, Place}
use Rattle.lsm_shelf.specs.Stored.{Stored}
use Rattle.lsm_shelf.specs.Told.{Told, fresh}
use Rattle.lsm_storage.specs.FileShelf.{file_number, file_told, folder_of, mark_of}
use Rattle.lsm_storage.specs.declared.file.file_receipt.FileReceipt.{FileReceipt}
use Rattle.lsm_storage.specs.declared.file.file_shelf.FileShelf.{FileShelf}

module _ {C M : Type 0} (folders : Ghosts C M) where
  -- A folder that was opened at this path; the calls on it since then are such.
  pub record IsFolderAt (path : List ℕ) (Called : (old new : List Call) → Type 0) (folder : C)
      : Type 0 where
    pub at : IsAtPath path (folders.place folder)
    pub called : Called (opened ∷ []) (folders.calls folder)

  -- what a shelf on such a folder was told
  abbrev pub told_by : FileShelf C M → Told
  told_by shelf = file_told folders.place shelf

  -- A shelf on such a folder, to which nothing was told yet.
  pub record IsShelfAt (path : List ℕ) (Called : (old new : List Call)
      → Type 0) (shelf : FileShelf C M) : Type 0 where
    pub on : IsFolderAt path Called (folder_of shelf)
    pub new : told_by shelf ≡ fresh (folders.place (folder_of shelf))

  -- Which images the folder of this place gave for which numbers.
  abbrev pub stored_at : mark.Ghosts M → Place → ℕ → List ℕ → Type 0
  stored_at marks place number image =
      Stored (FileReceipt M marks) (λ r. folders.is_of place (mark_of r)) file_number (λ r.
      marks.image (mark_of r)) number image
