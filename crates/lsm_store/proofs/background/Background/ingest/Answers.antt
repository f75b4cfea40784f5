use Rattle.std.proofs.Common.{subst}
use Rattle.std.specs.Prelude.{IfOk, List}
use Rattle.lsm_codec.specs.Entries.{Entry}
use Rattle.lsm_shelf.specs.Told.{Told}
use Rattle.lsm_state.specs.declared.ingest.Ingested.{Ingested}
use Rattle.lsm_store.specs.Background.{IsBroughtIn}
use Rattle.lsm_store.proofs.BackgroundLaws.{full_asks_nothing}
use Rattle.lsm_store.proofs.background.Background.ingest.Goals as goal

pub returns-in-Err-LevelZeroFull-clause-ok : goal.returns-in-Err-LevelZeroFull-clause-ok
returns-in-Err-LevelZeroFull-clause-ok g c =
    let came = (λ (t : Told). IfOk c.ingest_stalled.result (λ (r : Ingested × List Entry). IsBroughtIn g.K.Invariant.keeps c.args.batch.now r t c.ingest_stalled.new.shelf)) in
    let full = rw c.in-Err-LevelZeroFull.field-0-is at c.in-Err-LevelZeroFull.ensures.refused in
    subst came (full_asks_nothing (g.S.Shelf.refuses g.N.Naming.place) g.K.Invariant.keeps c.args.batch.now c.args.shelf.now c.bring_in_under_lock.new.shelf full) c.ingest_stalled.ensures.ok
