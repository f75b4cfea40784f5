-- What the exit status says of a conversion.
use Rattle.std.proofs.Common.{◌≡◌, ◌≢◌, ℕ, List, Option, IfErr, OnErr, OnOk}
use Rattle.std.specs.Prelude.{Result, Ok, Err, IfSome}
use Rattle.std.specs.Io.KnownBytes.{Keeps}
use Rattle.lsm_requests.specs.declared.conversion.Conversion.{Conversion}
use Rattle.lsm_text.specs.declared.fault.Fault.{Fault}
use Rattle.lsm_text.specs.declared.fault.Fault.TheVariants.{Write}
use Rattle.lsm_cmd_convert.specs.Converted.{BeginsAnswer, Explains, IsNotConverted}

-- a conversion that is refused
pub is_unconverted : {T : Type 0} (r : Result T Fault) (status : ℕ) (conversion : Conversion) (input old new : Option (List ℕ)) → OnOk r (status ≡ 0) → OnErr r (status ≡ 1)
    → IfErr r (λ e. IfSome input (λ text. Explains conversion text e)) → IfErr r (λ e. e ≢ Write → Keeps old new)
    → IfErr r (λ e. e ≡ Write → IfSome input (λ text. BeginsAnswer conversion text old new)) → status ≢ 0
    → (status ≡ 1) × ((fault : Fault) × IsNotConverted conversion input fault old new)
is_unconverted (Ok x) status conversion input old new ok err explained kept begun other = absurd (other ok)
is_unconverted (Err e) status conversion input old new ok err explained kept begun other = (err, (e, record { explained = explained; kept = kept; begun = begun }))
