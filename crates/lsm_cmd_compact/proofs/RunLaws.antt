-- What a run that compacts says, by what was done on the shelf that was opened.
use Rattle.std.proofs.Common.{◌≡◌, ◌≢◌, ℕ, List, Option, IfErr, OnErr, OnOk, arith, inr}
use Rattle.std.specs.Prelude.{Result, Ok, Err}
use Rattle.std.specs.Io.KnownBytes.{Keeps}
use Rattle.lsm_folder.specs.Calls.{AreHonest}
use Rattle.lsm_folder.specs.declared.folder_calls.FolderCalls.{Ghosts}
use Rattle.lsm_folder.specs.declared.mark.Mark as mark
use Rattle.lsm_shelf.specs.Refusals.{MayRefuse}
use Rattle.lsm_storage.specs.declared.file.file_shelf.FileShelf.{FileShelf}
use Rattle.lsm_requests.specs.declared.compact_line.CompactLine.{CompactLine}
use Rattle.lsm_cmd_compact.specs.Compacting.{IsCompactFault, IsCompacted}
use Rattle.lsm_directory.specs.Folders.{IsShelfAt, stored_at, told_by}
use Rattle.lsm_cmd_compact.specs.Compacted.{IsCompactedAt, IsUncompacted}
use Rattle.lsm_opening.specs.Tidying.{IsHeldTidy}
use Rattle.lsm_opening.specs.declared.faults.compact_fault.CompactFault.{CompactFault}
use Rattle.lsm_opening.specs.declared.faults.compact_fault.CompactFault.TheVariants.{Writer}
use Rattle.lsm_opening.specs.declared.faults.writer_fault.WriterFault.TheVariants.{Write as WriteFault}

-- what holds where a command is done
pub done_by : {T F P : Type 0} (r : Result T F) (status : ℕ) → OnErr r (status ≡ 1) → OnOk r P → status ≡ 0 → P
done_by (Ok x) status err done zero = done
done_by (Err e) status err done zero = absurd (omega (arith, err, zero))

module _ {C M : Type 0} (folders : Ghosts C M) where
  pub compacts_at : {T F : Type 0} (r : Result T F) (line : CompactLine) (begun ended : FileShelf C M) (old new : Option (List ℕ)) → IsShelfAt folders line.path.now IsHeldTidy begun
      → OnOk r (IsCompacted MayRefuse (AreHonest folders.calls) line.options (told_by folders begun) (told_by folders ended) old new) → OnOk r (IsCompactedAt folders line old new)
  compacts_at (Ok x) line begun ended old new on done = record { begun = begun; on = on; ended = ended; done = done }
  compacts_at (Err e) line begun ended old new on done = tt

module _ {C M : Type 0} (folders : Ghosts C M) (marks : mark.Ghosts M) where
  pub uncompacted : {T : Type 0} (r : Result T CompactFault) (line : CompactLine) (begun ended : FileShelf C M) (old new : Option (List ℕ)) → IsShelfAt folders line.path.now IsHeldTidy begun
      → IfErr r (λ e. IsCompactFault (stored_at folders marks (told_by folders begun).place) MayRefuse (AreHonest folders.calls) line.options e (told_by folders begun) (told_by folders ended))
      → IfErr r (λ e. e ≢ Writer WriteFault → Keeps old new) → OnErr r (IsUncompacted folders marks line old new)
  uncompacted (Ok x) line begun ended old new on says left = tt
  uncompacted (Err e) line begun ended old new on says left = inr (e, record { begun = begun; on = on; ended = ended; refused = record { says = says; left = left } })
