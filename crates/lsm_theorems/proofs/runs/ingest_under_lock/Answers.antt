use Rattle.std.proofs.Math.Logic.{∥∥₁_map}
use Rattle.lsm_state.specs.Held.{Held}
use Rattle.lsm_theorems.proofs.CallSteps.{made_so}
use Rattle.lsm_theorems.proofs.runs.ingest_under_lock.Goals as goal

pub invariant_of-deref_mut : goal.invariant_of-deref_mut
invariant_of-deref_mut g c =
    let was : Held = c.deref_mut.result.now.state in
    let is : Held = c.ingests_are_calls.new.state in
    let made = made_so g.S.Shelf.honest c.ingests_are_calls.result was is c.args.batch.now c.ingests_are_calls.ensures.ok c.ingests_are_calls.ensures.err in
    record { kept = ∥∥₁_map c.deref_mut.result.now.kept (c.requires was is made.0 made.1) }
