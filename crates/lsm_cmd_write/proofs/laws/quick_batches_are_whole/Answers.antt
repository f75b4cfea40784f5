use Rattle.std.specs.Prelude.{Result, Ok}
use Rattle.lsm_admission.specs.Keeping.{KeepsTables}
use Rattle.lsm_opening.specs.Parts.{usual}
use Rattle.lsm_opening.specs.declared.faults.writer_fault.WriterFault.{WriterFault}
use Rattle.lsm_opening.specs.declared.prepared.Start.TheVariants.{Open}
use Rattle.lsm_cmd_write.proofs.QuickOutcomes.{behind_done}
use Rattle.lsm_cmd_write.proofs.laws.quick_batches_are_whole.Goals as goal

pub returns : goal.returns
returns g c = λ place shape logs ws was is old new honest kept b.
    let H : Type 0 = g.S.Shelf.honest × KeepsTables (g.S.Finding.keeps place) shape in
    let done : Result (Unit {0}) WriterFault = Ok tt in
    behind_done done H Open logs ws b.state was b.mid is old new
    (c.quick_openings_are_whole.ensures place usual shape logs b.state was b.mid honest kept
    b.opened) b.brought
