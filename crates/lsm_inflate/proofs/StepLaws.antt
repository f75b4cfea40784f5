-- Steps of this crate's readers.
use Rattle.std.proofs.Common.{◌≡◌, Bool, true, false, Result, Ok, Err, refl, ap}
use Rattle.lsm_table.specs.declared.table_fault.TableFault.{TableFault}
use Rattle.lsm_inflate.specs.declared.inflate_fault.InflateFault.{InflateFault}
use Rattle.lsm_inflate.specs.Reading.{◌>>=◌, guarded, lifted}

abbrev pub done : {A : Type 0} → A → Result A InflateFault
done x = Ok x

pub ok_is : {A : Type 0} (x y : A) → done x ≡ done y → x ≡ y
ok_is x y e = cc

pub bind_ok : {A B : Type 0} (r : Result A InflateFault) (f : A → Result B InflateFault) (y : B) → (r >>= f) ≡ Ok y → (x : A) × (r ≡ Ok x) × (f x ≡ Ok y)
bind_ok (Ok x) f y e = (x, refl, e)
bind_ok (Err fault) f y e = absurd cc

pub guard_ok : {A : Type 0} (b : Bool) (fault : InflateFault) (r : Result A InflateFault) (y : A) → guarded b fault r ≡ Ok y → (b ≡ true) × (r ≡ Ok y)
guard_ok true fault r y e = (refl, e)
guard_ok false fault r y e = absurd cc

pub lifted_ok : {A : Type 0} (r : Result A TableFault) (x : A) → lifted r ≡ Ok x → r ≡ Ok x
lifted_ok {A} (Ok y) x e = ap (λ (z : A). Ok z) (ok_is y x e)
lifted_ok (Err fault) x e = absurd cc
