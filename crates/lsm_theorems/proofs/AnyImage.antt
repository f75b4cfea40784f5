-- Receipts of the program's shelf that are made up.
use Rattle.std.proofs.Common.{◌≡◌, ℕ, ◌≤◌, ◌^◌, List, [], ◌∷◌, length, Option, Some, None, refl, sym, ap, ◌∙◌, arith}
use Rattle.boxcar.specs.Table.{Shelves, id_at}
use Rattle.boxcar.specs.declared.tag.Tag.{Tag}
use Rattle.lsm_codec.specs.Lists.{Has}
use Rattle.lsm_crash.specs.Disk.{Disk, Shows}
use Rattle.lsm_crash.specs.Refusing.{ReadsShown}
use Rattle.lsm_folder.specs.declared.contents.Unsaid.{Unsaid}
use Rattle.lsm_folder.specs.declared.mute.Mute.{Mute}
use Rattle.lsm_folder.specs.declared.system_mark.SystemMark.{SystemMark}
use Rattle.lsm_shelf.specs.Told.{Told, Place, at_path}
use Rattle.lsm_storage.specs.FileNames.{table_name}
use Rattle.lsm_storage.specs.declared.file.file_receipt.FileReceipt.{FileReceipt}
use Rattle.lsm_table.specs.Registry.{Table}
use Rattle.lsm_theorems.specs.Stored.{StoredByProgram, marks_of_program}
use Rattle.lsm_version.specs.Versions.{Levels, level_in}

abbrev tag_of : List ℕ → Tag
tag_of bytes = record { marker = record {}; numbers = bytes }

-- a mark of this name and image, as such a folder may have handed it out
abbrev mark : Shelves → (name image : List ℕ) → SystemMark (Mute Unsaid) Tag
mark marks name image = record {
  token = record {
    index = 0;
    value = record { name = tag_of name; kept = tag_of image };
    bucket = 0;
    row = id_at marks.buckets 0;
    item = 0;
  };
}

abbrev receipt : Shelves → ℕ → (image : List ℕ) → length image ≤ 2 ^ 30 → FileReceipt (SystemMark (Mute Unsaid) Tag) marks_of_program
receipt marks number image limit = record {
  number = number;
  size = length image;
  mark = mark marks (table_name number) image;
  sized = refl;
  limit = limit;
  named = refl;
}

pub stored : (path : List ℕ) (marks : Shelves) (number : ℕ) (image : List ℕ) → length image ≤ 2 ^ 30 → StoredByProgram (at_path path marks) number image
stored path marks number image limit = (receipt marks number image limit, refl, refl, refl)

abbrev a_byte : List ℕ
a_byte = 0 ∷ []

abbrev file_in : Option ℕ → ℕ
file_in None = 0
file_in (Some i) = i

-- a name has one file, and that has one text
one_text : (d : Disk) (name xs ys : List ℕ) → Shows d name xs → Shows d name ys → xs ≡ ys
one_text d name xs ys (i, at, text) (j, there, other) = sym text ∙ ap (λ o. d.bytes (file_in o)) (sym at ∙ there) ∙ other

pub refuted : (path : List ℕ) (marks : Shelves) (v : Levels) (d : Disk) (was is : Told) (level : ℕ) (t : Table) → Has (level_in v.tables level) t → ReadsShown (StoredByProgram (at_path path marks)) v d was is → ⊥
refuted path marks v d was is level t has shown =
    let empty = shown.images level t [] has (stored path marks t.number [] (omega arith)) in
    let full = shown.images level t a_byte has (stored path marks t.number a_byte (omega arith)) in
    absurd (let n : 0 ≡ 1 = ap length (one_text d (table_name t.number) [] a_byte empty full) in omega arith)
