-- What an `ingest` leaves, and why it is refused (this project's rule).
use Rattle.std.specs.Prelude.{◌≡◌, ◌≢◌, ℕ, ◌⊎◌, Bool, true, false, List, [], ◌∷◌, ◌++◌, codes}
use Rattle.std.specs.Prelude.{decimal, Option}
use Rattle.std.specs.Io.KnownBytes.{Appends, Keeps}
use Rattle.lsm_shelf.specs.Asked.{Asked}
use Rattle.lsm_shelf.specs.declared.shelf_fault.ShelfFault.{ShelfFault}
use Rattle.lsm_shelf.specs.Told.{Told}
use Rattle.lsm_batch.specs.declared.write.Write.{Write}
use Rattle.lsm_state.specs.Asked.{IngestRefused, OnShelf}
use Rattle.lsm_state.specs.Held.{Held}
use Rattle.lsm_state.specs.Ingesting.{Ingests, IsIngestRefusal}
use Rattle.lsm_state.specs.declared.ingest.Ingested.{Ingested}
use Rattle.lsm_state.specs.declared.state_fault.StateFault.{StateFault}
use Rattle.lsm_manifest.specs.Shape.{Form}
use Rattle.lsm_admission.specs.Keeping.{KeepsTables}
use Rattle.lsm_opening.specs.Parts.{usual}
use Rattle.lsm_opening.specs.Quick.{IsNotOpenedQuickly, OpensQuickly}
use Rattle.lsm_opening.specs.Reading.{LacksManifest}
use Rattle.lsm_opening.specs.Starting.{IsOutOfMemory, IsStarted, IsStartRefusal}
use Rattle.lsm_directory.specs.declared.folder.folder_file.FolderFile.{FolderFile}
use Rattle.lsm_opening.specs.declared.prepared.Start.{Start}
use Rattle.lsm_opening.specs.declared.prepared.Start.TheVariants.{Begin, Open}
use Rattle.lsm_opening.specs.declared.faults.writer_fault.WriterFault.{WriterFault}
use Rattle.lsm_opening.specs.declared.faults.writer_fault.WriterFault.TheVariants.{OutOfMemory}
use Rattle.lsm_opening.specs.declared.faults.writer_fault.WriterFault.TheVariants.{Write as WriteFault}
use Rattle.lsm_opening.specs.declared.faults.writer_fault.WriterFault.TheVariants.{State}

-- `file N first F last L`
abbrev pub ingest_text : Ingested → List ℕ
ingest_text r = codes "file " ++ (decimal r.file
    ++ (codes " first " ++ (decimal r.first ++ (codes " last " ++ (decimal r.last ++ (10 ∷ []))))))

-- The directory was begun or opened, and then the batch came in.
pub record ComesIn (Honest : Type 0) (start : Start) (logs : List FolderFile) (ws : List Write)
    (r : Ingested) (was is : Told) : Type 0 where
  pub before : Held
  pub after : Held
  pub mid : Told
  pub started : IsStarted Honest start logs before was mid
  pub ingested : Ingests before after ws r mid is

-- It came in, and the reply was written.
abbrev pub IsBroughtIn : Type 0 → Start → List FolderFile → List Write → Told → Told
    → Option (List ℕ) → Option (List ℕ) → Type 0
IsBroughtIn Honest start logs ws was is old new =
    (r : Ingested) × ComesIn Honest start logs ws r was is × Appends old new (ingest_text r)

-- The directory was begun or opened, and then the state refused the batch. Where it was the shelf,
-- other than for want of memory, it refused the put of the batch's table, or the write of the
-- manifest by which that comes in.
pub record StaysOut (Refused : Asked → ShelfFault
    → Type 0) (Honest : Type 0) (start : Start) (logs : List FolderFile) (ws : List Write) (fault
    : StateFault) (was is : Told) : Type 0 where
  pub before : Held
  pub after : Held
  pub mid : Told
  pub started : IsStarted Honest start logs before was mid
  pub refused : IsIngestRefusal before after ws fault mid is
  pub asked : OnShelf (IngestRefused Refused before ws) fault

-- What a fault says: memory ran out before the shelf was asked for anything; the directory was not
-- begun or opened; the state refused the batch; or it came in, and the reply was not written.
abbrev pub IsIngestFault : (ℕ → List ℕ → Type 0) → (Asked → ShelfFault → Type 0) → Type 0 → Start
    → List FolderFile → List Write → WriterFault → Told → Told → Type 0
IsIngestFault Stored Refused Honest start logs ws e was is =
    ((e ≡ OutOfMemory) × (is ≡ was))
    ⊎ (IsStartRefusal Stored Refused Honest start logs e was is
    ⊎ (((fault : StateFault) × (e ≡ State fault)
    × StaysOut Refused Honest start logs ws fault was is)
    ⊎ ((e ≡ WriteFault) × ((r : Ingested) × ComesIn Honest start logs ws r was is))))

-- What a refusal is: what the fault says; and, unless a write failed, nothing was written on
-- standard output.
pub record IsNotBroughtIn (Stored : ℕ → List ℕ → Type 0) (Refused : Asked → ShelfFault
    → Type 0) (Honest : Type 0) (start : Start) (logs : List FolderFile) (ws : List Write) (fault
    : WriterFault) (was is : Told) (old new : Option (List ℕ)) : Type 0 where
  pub says : IsIngestFault Stored Refused Honest start logs ws fault was is
  pub left : fault ≢ WriteFault → Keeps old new

-- ---- on a state that is there

-- The batch came in, and the reply was written.
abbrev pub IsBroughtBehind : Held → List Write → Told → Told → Option (List ℕ) → Option (List ℕ)
    → Type 0
IsBroughtBehind state ws was is old new =
    (r : Ingested) × ((after : Held) × Ingests state after ws r was is)
    × Appends old new (ingest_text r)

-- The state refused it, as it does in `StaysOut`; or it came in, and the reply was not written.
abbrev pub IsFaultBehind : (Asked → ShelfFault → Type 0) → Held → List Write → WriterFault → Told
    → Told → Type 0
IsFaultBehind Refused state ws e was is =
    ((fault : StateFault) × (e ≡ State fault)
    × ((after : Held) × IsIngestRefusal state after ws fault was is)
    × OnShelf (IngestRefused Refused state ws) fault)
    ⊎ ((e ≡ WriteFault) × ((r : Ingested) × (after : Held) × Ingests state after ws r was is))

-- ---- where the database that is there is opened quickly

-- Its manifest came to the shape; it was opened, and then that was done.
pub record IsBroughtInUnder (Keeps : ℕ → List ℕ → Type 0) (Honest Kept : Type 0) (shape : Form)
    (logs : List FolderFile) (ws : List Write) (was is : Told) (old new : Option (List ℕ))
    : Type 0 where
  pub state : Held
  pub mid : Told
  pub opened : OpensQuickly Keeps Honest Kept usual shape logs state was mid
  pub brought : IsBroughtBehind state ws mid is old new

-- Of some shape; what of it rests on the tables rests on that the shelf keeps those of that shape.
abbrev pub IsBroughtInQuickly : (ℕ → List ℕ → Type 0) → Type 0 → List FolderFile → List Write
    → Told → Told → Option (List ℕ) → Option (List ℕ) → Type 0
IsBroughtInQuickly Keeps Honest logs ws was is old new =
    (shape : Form) × IsBroughtInUnder Keeps Honest (KeepsTables Keeps shape) shape logs ws was is
    old new

-- It was not opened; or it was, and this fault was met then.
abbrev pub IsFaultUnder : (ℕ → List ℕ → Type 0) → (Asked → ShelfFault → Type 0) → Type 0 → Type 0
    → Form → List FolderFile → List Write → WriterFault → Told → Told → Type 0
IsFaultUnder Keeps Refused Honest Kept shape logs ws e was is =
    IsNotOpenedQuickly Keeps Refused Honest usual shape logs e was is
    ⊎ ((state : Held) × (mid : Told)
    × OpensQuickly Keeps Honest Kept usual shape logs state was mid
    × IsFaultBehind Refused state ws e mid is)

-- Memory ran out before the shelf was asked for anything; or the manifest could not be read; or it
-- was, and then that.
abbrev pub IsQuickFault : (ℕ → List ℕ → Type 0) → (Asked → ShelfFault → Type 0) → Type 0
    → List FolderFile → List Write → WriterFault → Told → Told → Type 0
IsQuickFault Keeps Refused Honest logs ws e was is =
    IsOutOfMemory e was is ⊎ (LacksManifest Refused e was is
    ⊎ ((shape : Form)
    × IsFaultUnder Keeps Refused Honest (KeepsTables Keeps shape) shape logs ws e was is))

-- ---- as a line says

-- Where the line is quick, a database that is there is opened so; one is begun as ever.
abbrev pub BringsIn : Start → (quick : Bool) → (ℕ → List ℕ → Type 0) → Type 0 → List FolderFile
    → List Write → Told → Told → Option (List ℕ) → Option (List ℕ) → Type 0
BringsIn Open true Keeps Honest logs ws was is old new =
    IsBroughtInQuickly Keeps Honest logs ws was is old new
BringsIn Open false Keeps Honest logs ws was is old new =
    IsBroughtIn Honest Open logs ws was is old new
BringsIn (Begin number) quick Keeps Honest logs ws was is old new =
    IsBroughtIn Honest (Begin number) logs ws was is old new

abbrev pub KeepsOut : Start → (quick : Bool) → (Keeps Stored : ℕ → List ℕ → Type 0)
    → (Asked → ShelfFault → Type 0) → Type 0 → List FolderFile → List Write → WriterFault → Told
    → Told → Type 0
KeepsOut Open true Keeps Stored Refused Honest logs ws e was is =
    IsQuickFault Keeps Refused Honest logs ws e was is
KeepsOut Open false Keeps Stored Refused Honest logs ws e was is =
    IsIngestFault Stored Refused Honest Open logs ws e was is
KeepsOut (Begin number) quick Keeps Stored Refused Honest logs ws e was is =
    IsIngestFault Stored Refused Honest (Begin number) logs ws e was is
