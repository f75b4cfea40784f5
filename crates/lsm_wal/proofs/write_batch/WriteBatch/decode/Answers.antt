use Rattle.std.proofs.Common.{ℕ, List, Result, Ok, Err, length, ◌+◌, ◌^◌, ◌≤◌, arith, subst}
use Rattle.std.specs.Prelude.{IfOk}
use Rattle.lsm_codec.proofs.CallerLemmas.{IsBytes}
use Rattle.lsm_wal.specs.declared.write_log_fault.WriteLogFault.{WriteLogFault}
use Rattle.lsm_wal.specs.declared.write_batch.WriteBatch.{WriteBatch}
use Rattle.lsm_wal.specs.WriteLog.{IsWriteBatch}
use Rattle.lsm_wal.specs.Reading.{batch_at}
use Rattle.lsm_wal.specs.View.{Gives}
use Rattle.lsm_wal.proofs.BatchLaws.{batch_takes, batch_again}
use Rattle.lsm_wal.proofs.write_batch.WriteBatch.decode.Goals as goal

abbrev Read : Type 0
Read = Result WriteBatch WriteLogFault

found_from : (bytes : List ℕ) (r : Read) → IsBytes bytes
    → Gives (λ (b : WriteBatch). b) r (batch_at bytes) → IfOk r (λ b. IsWriteBatch bytes b)
found_from bytes (Err e) fits g = tt
found_from bytes (Ok b) fits g = batch_takes bytes b fits g

fits_from : (bytes : List ℕ) (r : Read) → IsBytes bytes
    → Gives (λ (b : WriteBatch). b) r (batch_at bytes)
    → IfOk r (λ b. b.first + length b.writes ≤ 2 ^ 56)
fits_from bytes (Err e) fits g = tt
fits_from bytes (Ok b) fits g = let is = batch_takes bytes b fits g in is.fits

pub returns-clause-found : goal.returns-clause-found
returns-clause-found c = found_from c.args.bytes.now c.read.result
    (λ i. omega (arith, c.type_inv.bytes i)) c.read.ensures

pub returns-clause-only : goal.returns-clause-only
returns-clause-only c b is = subst (λ (x : Read). Gives (λ (y : WriteBatch). y) c.read.result x)
    (batch_again c.args.bytes.now b is) c.read.ensures

pub returns-clause-fits : goal.returns-clause-fits
returns-clause-fits c = fits_from c.args.bytes.now c.read.result
    (λ i. omega (arith, c.type_inv.bytes i)) c.read.ensures
