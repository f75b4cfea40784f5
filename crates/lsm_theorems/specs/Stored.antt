-- Which images a shelf in a folder of the system, with the program's witness, may have stored, as
-- contracts see it (this project's rule).
use Rattle.std.specs.Prelude.{ℕ, List}
use Rattle.boxcar.specs.declared.tag.Tag.{Tag}
use Rattle.lsm_folder.specs.SystemFolder.{IsOfSystem, system_mark_image, system_mark_name}
use Rattle.lsm_folder.specs.declared.mark.Mark as Mark
use Rattle.lsm_folder.specs.declared.contents.Unsaid.{Unsaid}
use Rattle.lsm_folder.specs.declared.mute.Mute.{Mute}
use Rattle.lsm_folder.specs.declared.system_mark.SystemMark.{SystemMark}
use Rattle.lsm_shelf.specs.Place.{Place}
use Rattle.lsm_shelf.specs.Stored.{Stored}
use Rattle.lsm_storage.specs.FileShelf.{file_number, mark_of}
use Rattle.lsm_storage.specs.declared.file.file_receipt.FileReceipt.{FileReceipt}

abbrev pub kept_by_mute : Tag → List ℕ
kept_by_mute t = t.numbers

abbrev pub marks_of_program : Mark.Ghosts (SystemMark (Mute Unsaid) Tag)
marks_of_program = record { name = system_mark_name; image = system_mark_image kept_by_mute }

abbrev pub StoredByProgram : Place → ℕ → List ℕ → Type 0
StoredByProgram place = Stored (FileReceipt (SystemMark (Mute Unsaid) Tag) marks_of_program)
    (λ r. IsOfSystem place (mark_of r)) file_number
    (λ r. system_mark_image kept_by_mute (mark_of r))
