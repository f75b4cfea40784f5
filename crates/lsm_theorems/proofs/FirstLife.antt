-- A batch that a new database answered is its first life.
use Rattle.std.proofs.Common.{List, Result, Ok, Err}
use Rattle.std.specs.Prelude.{IfOk, OnOk}
use Rattle.atomic_table.specs.Seated.{TableId}
use Rattle.lsm_batch.specs.declared.write.Write.{Write}
use Rattle.lsm_crash.specs.Database.{IsIngestOf, IsMade, IsState}
use Rattle.lsm_model.specs.Plain as machine
use Rattle.lsm_shelf.specs.Told.{Told}
use Rattle.lsm_state.specs.Held.{Held, plain}
use Rattle.lsm_state.specs.Ingesting.{Ingests, IsWelcome, entries_of}
use Rattle.lsm_state.specs.declared.ingest.Ingested.{Ingested}
use Rattle.lsm_theorems.specs.FirstLife.{IsFirstLife}

-- what `premises_of_runs_are_met` says of such a life
abbrev pub Lives : Type 0 → TableId → Type 0
Lives honest board = (made now : Held) (ws : List Write) (r : Ingested) → IsMade made → IsIngestOf honest board made now ws r → IsFirstLife honest made now ws r

pub lived_so : {E : Type 0} (honest : Type 0) (board : TableId) → Lives honest board → (r : Result Ingested E) (made now : Held) (ws : List Write) (was is : Told) → IsState honest board made
    → IsState honest board now → IsMade made → OnOk r (IsWelcome made ws) → IfOk r (λ v. Ingests made now ws v was is) → OnOk r (machine.Ingests (plain made) (entries_of made ws) (plain now))
    → IfOk r (λ v. IsFirstLife honest made now ws v)
lived_so honest board lives (Ok v) made now ws was is old new m w i e = lives made now ws v m (record { was = was; is = is; before = old; after = new; welcome = w; ingests = i; event = e })
lived_so honest board lives (Err f) made now ws was is old new m w i e = tt
