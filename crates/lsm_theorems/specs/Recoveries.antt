-- What bringing logs in asks of a folder (LevelDB's `DBImpl::RecoverLogFile`; that the writes come
-- in as one table is this project's rule).
use Rattle.std.specs.Prelude.{◌≡◌, ℕ, suc, ◌^◌, ◌<◌, List, [], ◌∷◌, Some, length}
use Rattle.lsm_codec.specs.Lists.{Has}
use Rattle.lsm_shelf.specs.Told.{Told}
use Rattle.lsm_manifest.specs.Replay.{FileAt}
use Rattle.lsm_manifest.specs.Shape.{IsReplayed}
use Rattle.lsm_batch.specs.Batches.{entries_from}
use Rattle.lsm_batch.specs.declared.write.Write.{Write}
use Rattle.lsm_wal.specs.declared.write_batch.WriteBatch.{WriteBatch}
use Rattle.lsm_directory.specs.declared.folder.folder_file.FolderFile.{FolderFile}
use Rattle.lsm_import.specs.Copied.{IsLogFile, begun_edit, manifest_of, with_file}
use Rattle.lsm_import.specs.declared.copied.Copied.{Copied}
use Rattle.lsm_recovery.specs.Bringing.{BringsIn}
use Rattle.lsm_crash.specs.Versions.{Version}
use Rattle.lsm_crash.specs.Known.{World}
use Rattle.lsm_crash.specs.Operations.{Operation, Put, Start}

-- The table of the writes is put, where there are any; then the manifest is started that names it,
-- and comes to this version.
abbrev pub Asks : (ℕ → List ℕ → Type 0) → ℕ → List Write → (old new : Copied) → Version
    → List Operation → Type 0
Asks Into first [] old new v os = os ≡ Start new.next (manifest_of new) v ∷ []
Asks Into first (w ∷ ws) old new v os =
    (file : FileAt) × (put : IsLogFile Into (entries_from first (w ∷ ws)) old.next file)
    × (new ≡ with_file old file first (suc (length ws)))
    × (os ≡ Put old.next put.image ∷ Start new.next (manifest_of new) v ∷ [])

-- Logs came into the database that this world is, as the contract of `recover_on` says, and this
-- was asked of the folder. What it counts on are tables that the shelf listed. That the new
-- manifest has another number than the old one is what a shelf's `Taken` says.
pub record IsRecovery (Into : ℕ → List ℕ → Type 0) (Honest : Type 0) (files : List FolderFile)
    (batches : List WriteBatch) (w : World) (v : Version) (os : List Operation) : Type 0 where
  pub count : ℕ
  pub was : Told
  pub is : Told
  pub came : BringsIn Into Honest files w.version batches count was is
  pub listed : (number : ℕ) (image : List ℕ) → w.tables number ≡ Some image
      → Has came.tables number
  pub fits : came.brought.whole.next < 2 ^ 64
  pub other : w.manifest ≡ came.brought.whole.next → ⊥
  pub replayed : IsReplayed (begun_edit came.brought.whole ∷ []) v
  pub asks : Asks Into came.brought.filled.logs.first came.brought.filled.logs.batch
      came.standing came.brought.whole v os
