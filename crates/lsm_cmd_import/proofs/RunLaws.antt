-- One run, from its steps.
use Rattle.std.proofs.Common.{◌≡◌, ℕ, Bool, List, [], ◌∷◌, Option, None, Some, subst, sym, inl, inr}
use Rattle.std.proofs.Common.{refl}
use Rattle.lsm_folder.specs.Calls.{Call, opened}
use Rattle.lsm_folder.specs.declared.folder_calls.FolderCalls.{Ghosts}
use Rattle.lsm_shelf.specs.Place.{IsAtPath, Place}
use Rattle.lsm_shelf.specs.Told.{Becomes, Told, finding}
use Rattle.lsm_shelf.proofs.CallerLemmas.{becomes_then}
use Rattle.lsm_manifest.specs.Shape.{Form}
use Rattle.lsm_directory.specs.Folders.{IsFolderAt}
use Rattle.lsm_directory.specs.declared.folder.folder_file.FolderFile.{FolderFile}
use Rattle.lsm_opening.specs.Preparing.{IsUnprepared, plainly}
use Rattle.lsm_opening.specs.declared.faults.writer_fault.WriterFault.{WriterFault}
use Rattle.lsm_wal.specs.declared.write_batch.WriteBatch.{WriteBatch}
use Rattle.lsm_log_files.specs.Source.{HasShape, IsSource, ReadsManifest}
use Rattle.lsm_log_files.specs.Stops.{IsFrontSource, IsSourceTo}
use Rattle.lsm_log_files.specs.declared.log_stop.LogStop.{LogStop}
use Rattle.lsm_cmd_import.specs.Imported.{IsNoTarget}
use Rattle.lsm_cmd_import.specs.declared.copy_fault.CopyFault.TheVariants.{Target}

-- ---- the source's shelf, which goes on to read tables

pub reads_later : (a b c : Told) → ReadsManifest a b → Becomes b c → ReadsManifest a c
reads_later a b c (inl h) then = inl (becomes_then a b c h then)
reads_later a b c (inr (number, bytes, h)) then = inr (number, bytes, becomes_then (finding number bytes a) b c h then)

has_later : (shape : Form) (rest : ℕ) (a b c : Told) → HasShape shape rest a b → Becomes b c → HasShape shape rest a c
has_later shape rest a b c h then = record {
  number = h.number;
  bytes = h.bytes;
  found = becomes_then (finding h.number h.bytes a) b c h.found then;
  edits = h.edits;
  manifest = h.manifest;
  replayed = h.replayed;
}

whole_later : (files : List FolderFile) (shape : Form) (batches : List WriteBatch)
    (count rest : ℕ) (old new : List Call) (a b c : Told)
    → IsSource files shape batches count rest old new a b → Becomes b c
    → IsSource files shape batches count rest old new a c
whole_later files shape batches count rest old new a b c s then = record {
  torn = s.torn;
  has = has_later shape s.torn a b c s.has then;
  numbers = s.numbers;
  logs = s.logs;
  counted = s.counted;
  tail = s.tail;
  read = s.read;
  row = s.row;
  rests = s.rests;
}

front_later : (stop : LogStop) (files : List FolderFile) (shape : Form) (batches : List WriteBatch)
    (count rest : ℕ) (old new : List Call) (a b c : Told)
    → IsFrontSource stop files shape batches count rest old new a b → Becomes b c
    → IsFrontSource stop files shape batches count rest old new a c
front_later stop files shape batches count rest old new a b c s then = record {
  torn = s.torn;
  has = has_later shape s.torn a b c s.has then;
  numbers = s.numbers;
  logs = s.logs;
  tail = s.tail;
  read = s.read;
  row = s.row;
  rests = s.rests;
}

pub source_later : (to_first_fault : Bool) (stop : Option LogStop) (files : List FolderFile)
    (shape : Form) (batches : List WriteBatch) (count rest : ℕ) (old new : List Call)
    (a b c : Told)
    → IsSourceTo to_first_fault stop files shape batches count rest old new a b → Becomes b c
    → IsSourceTo to_first_fault stop files shape batches count rest old new a c
source_later to_first_fault None files shape batches count rest old new a b c s then =
    whole_later files shape batches count rest old new a b c s then
source_later to_first_fault (Some stop) files shape batches count rest old new a b c s then =
    (s.0, front_later stop files shape batches count rest old new a b c s.1 then)

-- ---- a folder that was asked for something since it was opened

module _ {C M : Type 0} (folders : Ghosts C M) where
  pub folder_at : (path : List ℕ) (Called : List Call → List Call → Type 0) (first now : C) → IsAtPath path (folders.place first) → folders.calls first ≡ opened ∷ []
      → Called (folders.calls first) (folders.calls now) → folders.place now ≡ folders.place first → IsFolderAt folders path Called now
  folder_at path Called first now at none called same = record {
    at = subst (λ (p : Place). IsAtPath path p) (sym same) at;
    called = subst (λ (cs : List Call). Called cs (folders.calls now)) none called;
  }

  -- in which a database can't be begun
  pub no_target : (path : List ℕ) (first now : C) (e : WriterFault) → IsAtPath path (folders.place first) → folders.calls first ≡ opened ∷ []
      → IsUnprepared plainly e (folders.calls first) (folders.calls now) → folders.place now ≡ folders.place first → IsNoTarget folders path (Target e)
  no_target path first now e at none refused same = inr (inl (e, refl, (now, folder_at path (IsUnprepared plainly e) first now at none refused same)))
