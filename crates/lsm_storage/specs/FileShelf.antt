-- A shelf on a folder, as contracts see it (this project's rule).
use Rattle.std.specs.Prelude.{ℕ}
use Rattle.lsm_folder.specs.declared.mark.Mark.{Ghosts}
use Rattle.lsm_storage.specs.declared.file.file_shelf.FileShelf.{FileShelf}
use Rattle.lsm_storage.specs.declared.file.file_receipt.FileReceipt.{FileReceipt}
use Rattle.lsm_storage.specs.Account.{told_in}
use Rattle.lsm_shelf.specs.Told.{Place, Told}

-- the folder on which it lies
abbrev pub folder_of : {C M : Type 0} → FileShelf C M → C
folder_of s = s.folder

-- what its calls told it, where such a folder is named by `place`
abbrev pub file_told : {C M : Type 0} → (C → Place) → FileShelf C M → Told
file_told place s = told_in (place s.folder) s.account

abbrev pub file_number : {M : Type 0} {g : Ghosts M} → FileReceipt M g → ℕ
file_number r = r.number

-- the mark of the table's file
abbrev pub mark_of : {M : Type 0} {g : Ghosts M} → FileReceipt M g → M
mark_of r = r.mark
