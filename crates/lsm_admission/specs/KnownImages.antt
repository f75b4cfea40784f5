-- A receipt for a table that a program knows, or for one in memory (this project's rule).
use Rattle.std.specs.Prelude.{◌≡◌, ◌==◌, ℕ, cond, List, [], ◌∷◌, Option, None, Some}
use Rattle.lsm_codec.specs.Lists.{Has}
use Rattle.lsm_shelf.specs.Told.{Place}
use Rattle.lsm_storage.specs.MemoryShelf.{IsOfMemory, memory_image, memory_number}
use Rattle.lsm_storage.specs.declared.memory.memory_receipt.MemoryReceipt.{MemoryReceipt}
use Rattle.lsm_table.specs.Registry.{Table}
use Rattle.lsm_version.specs.Versions.{Levels, level_in}

-- the number: that of the stored image, if there is one
abbrev pub number_in : ℕ → Option MemoryReceipt → ℕ
number_in number None = number
number_in number (Some stored) = memory_number stored

-- the image: the stored one, if there is one
abbrev pub image_in : List ℕ → Option MemoryReceipt → List ℕ
image_in known None = known
image_in known (Some stored) = memory_image stored

-- it is of these contents: what is known lies nowhere
abbrev pub IsOfKnown : Place → Option MemoryReceipt → Type 0
IsOfKnown p None = Unit {0}
IsOfKnown p (Some stored) = IsOfMemory p stored

-- Of each table of the version the image is known under its number.
abbrev pub AreKnown : (ℕ → List ℕ) → Levels → Type 0
AreKnown images v = (n : ℕ) (t : Table) → Has (level_in v.tables n) t → images t.number ≡ t.image

-- ---- images by which a version is known

-- the image of the first table of this number, or else the other one
abbrev pub image_of : List Table → ℕ → List ℕ → List ℕ
image_of [] number other = other
image_of (t ∷ ts) number other = cond (t.number == number) t.image (image_of ts number other)

-- the same over levels; of another number it is empty
abbrev pub images_of : List (List Table) → ℕ → List ℕ
images_of [] number = []
images_of (ts ∷ levels) number = image_of ts number (images_of levels number)
