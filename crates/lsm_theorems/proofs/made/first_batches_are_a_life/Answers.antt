use Rattle.lsm_state.specs.Held.{Held}
use Rattle.lsm_theorems.proofs.FirstLife.{lived_so}
use Rattle.lsm_theorems.proofs.made.first_batches_are_a_life.Goals as goal

pub returns-clause-lived : goal.returns-clause-lived
returns-clause-lived g c =
    let was : Held = c.args.state.now in
    let is : Held = c.ingest-ingested.new.self in
    let board = g.N.Boarded.board in
    lived_so g.S.Shelf.honest board (c.premises_of_runs_are_met.ensures.new board) c.ingest-ingested.result was is c.args.batch.now c.args.shelf.now c.ingest-ingested.new.shelf
    (c.options-options.ensures.law, c.options-options.ensures.slots) (c.options-options-2.ensures.law, c.options-options-2.ensures.slots) c.requires.made c.ingest-ingested.ensures.welcome c.ingest-ingested.ensures.ok c.ingest-ingested.ensures.event
