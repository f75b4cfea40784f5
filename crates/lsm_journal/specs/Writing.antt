-- The edits that a journal writes, and their bytes (LevelDB's `db/version_set.cc`; that each edit
-- but a new database's first has all four numbers is this project's rule).
use Rattle.std.specs.Prelude.{ℕ, ◌+◌, ◌%◌, List, [], ◌∷◌, length, map, Option, Some, None, codes}
use Rattle.lsm_table.specs.Registry.{Table}
use Rattle.lsm_manifest.specs.declared.parts.CompactPointer.{CompactPointer}
use Rattle.lsm_manifest.specs.EditFit.{Change}
use Rattle.lsm_manifest.specs.EditWriting.{edit_text}
use Rattle.lsm_manifest.specs.LogWriting.{record_text}
use Rattle.lsm_manifest.specs.Replay.{FileAt}
use Rattle.lsm_manifest.specs.Shape.{Form}
use Rattle.lsm_manifest.specs.WholeEdit.{placed_at, whole_edit}
use Rattle.lsm_version.specs.Versions.{Levels}
use Rattle.lsm_journal.specs.HeldManifest.{HeldManifest}
use Rattle.lsm_journal.specs.declared.manifest_limit.ManifestLimit.{ManifestLimit}
use Rattle.lsm_journal.specs.Recorded.{meta_of}
use Rattle.lsm_journal.specs.Difference.{Difference}

-- the bytes that the record of an edit adds to a manifest
abbrev pub record_of : List ℕ → Change → List ℕ
record_of bytes edit = record_text (length bytes % 32768) (edit_text edit)

-- ---- a new database

-- the edit of a new database whose manifest has this number, so that the next file number is one
-- more
abbrev pub first_edit_under : ℕ → Change
first_edit_under number = record {
  comparator = Some (codes "leveldb.BytewiseComparator");
  log = Some 0;
  prev_log = None;
  next = Some (number + 1);
  last = Some 0;
  pointers = [];
  deleted = [];
  added = [];
}

-- its manifest
abbrev pub created_under : ℕ → ManifestLimit → HeldManifest
created_under number limit = record {
  number = number;
  bytes = record_of [] (first_edit_under number);
  log = 0;
  prev_log = 0;
  limit = limit;
}

-- that of manifest 1, so that 2 is the next number
abbrev pub created : ManifestLimit → HeldManifest
created limit = created_under 1 limit

-- ---- a change

abbrev pub placed : ℕ × Table → FileAt
placed a = placed_at a.0 (meta_of a.1)

abbrev pub pointers_of : Option (ℕ × List ℕ) → List CompactPointer
pointers_of None = []
pointers_of (Some p) = record { level = p.0; key = p.1 } ∷ []

-- the edit of a change: the journal's log numbers, the next file number, and what the change says
abbrev pub change_edit : HeldManifest → Difference → ℕ → Change
change_edit h d next = record {
  comparator = None;
  log = Some h.log;
  prev_log = Some h.prev_log;
  next = Some next;
  last = Some d.last;
  pointers = pointers_of d.pointer;
  deleted = d.deleted;
  added = map placed d.added;
}

-- ---- a whole version

abbrev pub metas_of : List (List Table) → List (List Rattle.lsm_manifest.specs.FileOrder.TableFile)
metas_of tables = map (λ ts. map meta_of ts) tables

-- the version as a replay gives it, with the journal's log numbers and the next file number
abbrev pub shape_of : HeldManifest → Levels → ℕ → Form
shape_of h v next = record {
  levels = metas_of v.tables;
  pointers = v.pointers;
  log = h.log;
  prev_log = h.prev_log;
  next = next;
  last = v.last;
}

-- the one edit of a new manifest
abbrev pub version_edit : HeldManifest → Levels → ℕ → Change
version_edit h v next = whole_edit (shape_of h v next)
