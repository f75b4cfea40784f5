-- A shelf in memory, as contracts see it (this project's rule).
use Rattle.std.specs.Prelude.{ℕ, List}
use Rattle.std.specs.Arc.{arc_value}
use Rattle.boxcar.specs.Table.{Shows}
use Rattle.lsm_storage.specs.declared.memory.memory_shelf.MemoryShelf.{MemoryShelf}
use Rattle.lsm_storage.specs.declared.memory.memory_receipt.MemoryReceipt.{MemoryReceipt}
use Rattle.lsm_shelf.specs.Told.{Told, Place, in_memory, at_path}
use Rattle.lsm_storage.specs.Account.{told_in}

-- its contents are named by the vector of their images
abbrev pub memory_told : MemoryShelf → Told
memory_told s = told_in (in_memory (arc_value s.contents).images) s.account

-- the receipt shows an image of that vector
abbrev pub IsOfMemory : Place → MemoryReceipt → Type 0
IsOfMemory (in_memory images) r = Shows images r.token
IsOfMemory (at_path path marks) r = ⊥

-- the number and the bytes of the image for which it stands
abbrev pub memory_number : MemoryReceipt → ℕ
memory_number r = r.number

abbrev pub memory_image : MemoryReceipt → List ℕ
memory_image r = r.token.value.bytes.items
