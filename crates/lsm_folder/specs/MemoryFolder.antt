-- A folder in memory, as contracts see it (this project's rule).
use Rattle.std.specs.Prelude.{List, ℕ}
use Rattle.std.specs.Arc.{arc_value}
use Rattle.boxcar.specs.Table.{Shows}
use Rattle.lsm_folder.specs.Calls.{Call}
use Rattle.lsm_shelf.specs.Place.{Place, in_memory, at_path}
use Rattle.lsm_folder.specs.declared.memory_folder.MemoryFolder.{MemoryFolder}
use Rattle.lsm_folder.specs.declared.memory_mark.MemoryMark.{MemoryMark}

abbrev pub memory_calls : MemoryFolder → List Call
memory_calls f = f.log.calls

-- the folder is named by the vector of its files' bytes
abbrev pub memory_place : MemoryFolder → Place
memory_place f = in_memory (arc_value f.files).images

-- the mark shows bytes of that vector
abbrev pub IsOfMemory : Place → MemoryMark → Type 0
IsOfMemory (in_memory images) m = Shows images m.token
IsOfMemory (at_path path marks) m = ⊥

abbrev pub memory_mark_name : MemoryMark → List ℕ
memory_mark_name m = m.name.numbers

abbrev pub memory_mark_image : MemoryMark → List ℕ
memory_mark_image m = m.token.value.bytes.items
