-- The first life of a database (this project's rule).
use Rattle.std.specs.Prelude.{List, [], ◌∷◌, Some}
use Rattle.lsm_batch.specs.declared.write.Write.{Write}
use Rattle.lsm_crash.specs.Database.{Answered, Ingest}
use Rattle.lsm_crash.specs.Disk.{Disk, empty_disk}
use Rattle.lsm_crash.specs.Known.{World}
use Rattle.lsm_crash.specs.Lives.{FromNothing, Worked}
use Rattle.lsm_state.specs.Held.{Held}
use Rattle.lsm_state.specs.declared.ingest.Ingested.{Ingested}

-- From an empty disk on: a try to make this database was cut; it was made, the batch was answered
-- so, which left it as it is now, and power was cut.
abbrev pub IsFirstLife : Type 0 → (made now : Held) → List Write → Ingested → Type 0
IsFirstLife honest made now ws r = (u : World) × (e : Disk) × FromNothing honest (made ∷ [])
    (Worked made now (Answered (Ingest ws r) ∷ []) ∷ []) empty_disk (Some u) e
