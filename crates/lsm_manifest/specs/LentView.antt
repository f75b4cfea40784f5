-- A field that is lent, without where it lies in memory.
use Rattle.lsm_manifest.specs.declared.field_writer.LentField.{LentField}
use Rattle.lsm_manifest.specs.declared.field_writer.LentField.TheVariants as lent
use Rattle.lsm_manifest.specs.Edit.{Field, Comparator, Log, Prev, Next, Last, Pointer, Deleted}
use Rattle.lsm_manifest.specs.Edit.{Added}
use Rattle.lsm_manifest.specs.EditView.{added_parts}

abbrev pub lent_field : LentField → Field
lent_field (lent.Comparator x) = Comparator x.now
lent_field (lent.Log x) = Log x
lent_field (lent.PrevLog x) = Prev x
lent_field (lent.Next x) = Next x
lent_field (lent.Last x) = Last x
lent_field (lent.Pointer p) = Pointer (p.now.level, p.now.key)
lent_field (lent.Deleted d) = Deleted (d.now.level, d.now.number)
lent_field (lent.Added a) = Added (added_parts a.now)
