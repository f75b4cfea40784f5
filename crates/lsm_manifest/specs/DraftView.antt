-- What a draft comes to, and one field more.
use Rattle.std.specs.Prelude.{[], ◌∷◌, ◌++◌, Some}
use Rattle.lsm_manifest.specs.declared.draft.Draft.{Draft}
use Rattle.lsm_manifest.specs.declared.edit.Edit.{Edit}
use Rattle.lsm_manifest.specs.Edit.{Field, Comparator, Log, Prev, Next, Last, Pointer, Deleted}
use Rattle.lsm_manifest.specs.Edit.{Added}

abbrev pub draft_of : Draft → Edit
draft_of d = record {
  comparator = d.comparator;
  log = d.log;
  prev_log = d.prev_log;
  next = d.next;
  last = d.last;
  pointers = d.pointers.items;
  deleted = d.deleted.items;
  added = d.added.items;
}

abbrev pub with_field : Edit → Field → Edit
with_field e (Comparator x) = record e { comparator = Some x }
with_field e (Log x) = record e { log = Some x }
with_field e (Prev x) = record e { prev_log = Some x }
with_field e (Next x) = record e { next = Some x }
with_field e (Last x) = record e { last = Some x }
with_field e (Pointer x) = record e {
  pointers = e.pointers ++ record { level = x.0; key = x.1 }
      ∷ [];
}
with_field e (Deleted x) = record e {
  deleted = e.deleted ++ record { level = x.0; number = x.1 }
      ∷ [];
}
with_field e (Added x) = record e {
  added = e.added
      ++ record {
        level = x.0;
        file = record
            { number = x.1.0; size = x.1.1.0; smallest = x.1.1.1.0; largest = x.1.1.1.1 };
      } ∷ [];
}
