use Rattle.std.proofs.Common.{List, ℕ, OnErr, OnOk, subst, ◌∙◌}
use Rattle.std.specs.Io.KnownBytes.{Appends}
use Rattle.lsm_text.specs.Printing.{Begins}
use Rattle.lsm_log_files.specs.Stops.{stop_text}
use Rattle.lsm_log_files.proofs.StopLaws.{begun_at_least}
use Rattle.lsm_log_files.proofs.log_stop.tell_left_out.Goals as goal

pub returns-in-Ok-clause-begun : goal.returns-in-Ok-clause-begun
returns-in-Ok-clause-begun g c =
    let old = g.E.Write.contents c.args.err.now in
    let new = g.E.Write.contents c.write_output.new.out in
    let text = c.as_bytes.ensures.value ∙ c.in-Ok.ensures in
    rw c.in-Some.is
    (begun_at_least c.write_output.result old new (stop_text c.in-Some.stop)
    (subst (λ (t : List ℕ). OnOk c.write_output.result (Appends old new t)) text
    c.write_output.ensures.written)
    (subst (λ (t : List ℕ). OnErr c.write_output.result (Begins old new t)) text
    c.write_output.ensures.begun))
