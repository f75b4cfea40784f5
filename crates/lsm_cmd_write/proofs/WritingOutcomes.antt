-- What a command answers, by what is done.
use Rattle.std.proofs.Common.{◌≡◌, ◌≢◌, ℕ, List, Option, None, Some, IfErr, OnErr, OnOk, refl}
use Rattle.std.specs.Prelude.{Result, Ok, Err}
use Rattle.std.specs.Io.KnownBytes.{Keeps}
use Rattle.lsm_shelf.specs.Asked.{Asked}
use Rattle.lsm_shelf.specs.declared.shelf_fault.ShelfFault.{ShelfFault}
use Rattle.lsm_shelf.specs.Told.{Told}
use Rattle.lsm_batch.specs.declared.write.Write.{Write}
use Rattle.lsm_directory.specs.declared.folder.folder_file.FolderFile.{FolderFile}
use Rattle.lsm_opening.specs.declared.prepared.Start.{Start}
use Rattle.lsm_cmd_write.specs.Ingesting.{IsIngestFault, IsNotBroughtIn}
use Rattle.lsm_opening.specs.declared.faults.writer_fault.WriterFault.{WriterFault}
use Rattle.lsm_opening.specs.declared.faults.writer_fault.WriterFault.TheVariants.{Write as WriteFault}

pub is_refused : {T : Type 0} (r : Result T WriterFault) (status : ℕ) (Stored : ℕ → List ℕ → Type 0) (Refused : Asked → ShelfFault → Type 0) (Honest : Type 0) (start : Start) (logs : List FolderFile) (ws : List Write)
    (was is : Told) (old new : Option (List ℕ)) → OnOk r (status ≡ 0) → OnErr r (status ≡ 1)
    → IfErr r (λ e. IsIngestFault Stored Refused Honest start logs ws e was is) → IfErr r (λ e. e ≢ WriteFault → Keeps old new) → status ≢ 0
    → (status ≡ 1) × ((fault : WriterFault) × IsNotBroughtIn Stored Refused Honest start logs ws fault was is old new)
is_refused (Ok x) status Stored Refused Honest start logs ws was is old new ok err says left other = absurd (other ok)
is_refused (Err e) status Stored Refused Honest start logs ws was is old new ok err says left other = (err, (e, record { says = says; left = left }))

-- what was done, where the status is 0
pub done_by : {T F : Type 0} (r : Result T F) (status : ℕ) (Done : Type 0)
    → OnOk r (status ≡ 0) → OnErr r (status ≡ 1) → OnOk r Done → status ≡ 0 → Done
done_by (Ok x) status Done ok err done zero = done
done_by (Err e) status Done ok err done zero = absurd cc

pub keeps_itself : (x : Option (List ℕ)) → Keeps x x
keeps_itself None = tt
keeps_itself (Some xs) = refl

-- nothing was written, whatever the answer is
pub all_keep : {T : Type 0} (r : Result T WriterFault) (x : Option (List ℕ)) → IfErr r (λ e. e ≢ WriteFault → Keeps x x)
all_keep (Ok v) x = tt
all_keep (Err e) x = λ n. keeps_itself x
