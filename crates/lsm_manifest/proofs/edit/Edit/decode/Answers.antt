use Rattle.std.proofs.Common.{ℕ, List, Result, Ok, Err, arith, subst}
use Rattle.std.specs.Prelude.{IfOk}
use Rattle.lsm_codec.proofs.CallerLemmas.{IsBytes}
use Rattle.lsm_manifest.specs.declared.edit_fault.EditFault.{EditFault}
use Rattle.lsm_manifest.specs.declared.edit.Edit.{Edit}
use Rattle.lsm_manifest.specs.Edit.{IsEdit}
use Rattle.lsm_manifest.specs.EditReading.{edit_at}
use Rattle.lsm_manifest.specs.EditView.{Gives}
use Rattle.lsm_manifest.specs.EditFit.{IsFit}
use Rattle.lsm_manifest.proofs.EditLaws.{edit_takes, edit_again}
use Rattle.lsm_manifest.proofs.EditFits.{edit_fits}
use Rattle.lsm_manifest.proofs.edit.Edit.decode.Goals as goal

found_from : (bytes : List ℕ) (r : Result Edit EditFault) → IsBytes bytes → Gives (λ (e : Edit). e) r (edit_at bytes) → IfOk r (λ e. IsEdit bytes e)
found_from bytes (Err e) fits g = tt
found_from bytes (Ok e) fits g = edit_takes bytes e fits g

fit_from : (bytes : List ℕ) (r : Result Edit EditFault) → IsBytes bytes → Gives (λ (e : Edit). e) r (edit_at bytes) → IfOk r IsFit
fit_from bytes (Err e) fits g = tt
fit_from bytes (Ok e) fits g = edit_fits bytes e (edit_takes bytes e fits g)

pub returns-clause-found : goal.returns-clause-found
returns-clause-found c = found_from c.args.bytes.now c.read.result (λ i. omega (arith, c.type_inv.bytes i)) c.read.ensures

pub returns-clause-only : goal.returns-clause-only
returns-clause-only c edit is = subst (λ (x : Result Edit EditFault). Gives (λ (e : Edit). e) c.read.result x) (edit_again c.args.bytes.now edit is) c.read.ensures

pub returns-clause-fit : goal.returns-clause-fit
returns-clause-fit c = fit_from c.args.bytes.now c.read.result (λ i. omega (arith, c.type_inv.bytes i)) c.read.ensures
