-- What the readers of an edit return, as reading on lists gives it.
use Rattle.std.specs.Prelude.{ℕ, Bool, true, false, List, Result}
use Rattle.lsm_codec.specs.Gives as answer
use Rattle.lsm_manifest.specs.declared.edit_fault.EditFault.{EditFault}
use Rattle.lsm_manifest.specs.declared.edit_fault.EditFault.TheVariants.{OutOfMemory, UnknownTag}
use Rattle.lsm_manifest.specs.declared.edit_fault.EditFault.TheVariants.{BadLevel, EditCut}
use Rattle.lsm_manifest.specs.declared.edit_fault.EditFault.TheVariants.{BadEditKey}
use Rattle.lsm_manifest.specs.declared.parts.AddedFile.{AddedFile}
use Rattle.lsm_manifest.specs.declared.field_reader.Field.{Field as Held}
use Rattle.lsm_manifest.specs.declared.field_reader.Field.TheVariants as held
use Rattle.lsm_manifest.specs.Edit.{Field, Comparator, Log, Prev, Next, Last, Pointer, Deleted}
use Rattle.lsm_manifest.specs.Edit.{Added}

abbrev pub is_memory : EditFault → Bool
is_memory OutOfMemory = true
is_memory (UnknownTag tag) = false
is_memory (BadLevel level) = false
is_memory EditCut = false
is_memory BadEditKey = false

-- The fault is the one that reading gives, unless memory ran out.
abbrev pub Fails : {Y : Type 0} → EditFault → Result Y EditFault → Type 0
Fails fault read = answer.Fails is_memory fault read

-- What was returned is what reading gives, unless memory ran out.
abbrev pub Gives : {X Y : Type 0} → (X → Y) → Result X EditFault → Result Y EditFault → Type 0
Gives see result read = answer.Gives is_memory see result read

-- a file that is added, in the order of its bytes
abbrev pub added_parts : AddedFile → ℕ × (ℕ × (ℕ × (List ℕ × List ℕ)))
added_parts a = (a.level, (a.file.number, (a.file.size, (a.file.smallest, a.file.largest))))

-- a field without where it lies in memory
abbrev pub field_of : Held → Field
field_of (held.Comparator x) = Comparator x
field_of (held.Log x) = Log x
field_of (held.PrevLog x) = Prev x
field_of (held.Next x) = Next x
field_of (held.Last x) = Last x
field_of (held.Pointer p) = Pointer (p.level, p.key)
field_of (held.Deleted d) = Deleted (d.level, d.number)
field_of (held.Added a) = Added (added_parts a)
