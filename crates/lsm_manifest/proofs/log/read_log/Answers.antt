use Rattle.std.proofs.Common.{ℕ, List, Result, Ok, Err, arith, subst}
use Rattle.std.specs.Prelude.{IfOk}
use Rattle.lsm_codec.proofs.CallerLemmas.{IsBytes}
use Rattle.lsm_manifest.specs.declared.log_fault.LogFault.{LogFault}
use Rattle.lsm_manifest.specs.Log.{IsLog}
use Rattle.lsm_manifest.specs.LogReading.{Whole, log_at}
use Rattle.lsm_manifest.specs.LogView.{Gives, seen}
use Rattle.lsm_manifest.proofs.RecordLaws.{log_takes, log_again}
use Rattle.lsm_manifest.proofs.log.read_log.Goals as goal

found_from : {X : Type 0} (see : X → Whole) (bytes : List ℕ) (r : Result X LogFault) → IsBytes bytes → Gives see r (log_at bytes) → IfOk r (λ v. IsLog bytes (see v).0 (see v).1)
found_from see bytes (Err e) fits g = tt
found_from see bytes (Ok v) fits g = log_takes bytes (see v) fits g

pub returns-clause-found : goal.returns-clause-found
returns-clause-found c = found_from seen c.args.bytes.now c.read.result (λ i. omega (arith, c.type_inv.bytes i)) c.read.ensures

pub returns-clause-only : goal.returns-clause-only
returns-clause-only c records rest g =
    subst (λ (x : Result Whole LogFault). Gives seen c.read.result x) (log_again c.args.bytes.now records rest g) c.read.ensures
