use Rattle.std.proofs.Common.{◌≡◌, false, ◌∙◌, ap, sym}
use Rattle.lsm_batch.specs.declared.write.Write.{Write}
use Rattle.std.specs.Prelude.{List}
use Rattle.lsm_state.specs.Held.{Held}
use Rattle.lsm_state.specs.Ingesting.{IsEarlyRefusal, of_batch}
use Rattle.lsm_state.proofs.IngestLaws.{batch_refused, err_is}
use Rattle.lsm_state.proofs.state.State.may_ingest.Goals as goal

pub returns-in_err-check-clause-refused : goal.returns-in_err-check-clause-refused
returns-in_err-check-clause-refused g c =
    let h : Held = c.args.self.now in
    let ws : List Write = c.args.batch.now in
    let going : h.halted ≡ false = ap (λ (x : Held). x.halted) (sym c.self.view_is) ∙ c.if-self.false in
    err_is (IsEarlyRefusal h ws) c.from_residual.result (of_batch c.in_err-check.field-0.0) c.from_residual.ensures.1 (batch_refused h ws c.in_err-check.field-0.0 going c.in_err-check.ensures.refused)
