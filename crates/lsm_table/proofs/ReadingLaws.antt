-- Steps of a reader.
use Rattle.std.proofs.Common.{◌≡◌, ℕ, Bool, true, false, List, Result, Ok, Err, refl, ap}
use Rattle.lsm_codec.specs.declared.fault.CodecFault.{CodecFault}
use Rattle.lsm_codec.specs.Entries.{Entry}
use Rattle.lsm_block.specs.declared.fault.BlockFault.{BlockFault}
use Rattle.lsm_table.specs.declared.table_fault.TableFault.{TableFault}
use Rattle.lsm_table.specs.Reading.{◌>>=◌, guarded, number_or}
use Rattle.lsm_table.specs.TableReading.{block_or}

pub bind_ok : {A B : Type 0} (r : Result A TableFault) (f : A → Result B TableFault) (y : B) → (r >>= f) ≡ Ok y → (x : A) × (r ≡ Ok x) × (f x ≡ Ok y)
bind_ok (Ok x) f y e = (x, refl, e)
bind_ok (Err fault) f y e = absurd cc

pub guard_ok : {A : Type 0} (b : Bool) (fault : TableFault) (r : Result A TableFault) (y : A) → guarded b fault r ≡ Ok y → (b ≡ true) × (r ≡ Ok y)
guard_ok true fault r y e = (refl, e)
guard_ok false fault r y e = absurd cc

abbrev pub done : {A : Type 0} → A → Result A TableFault
done x = Ok x

pub ok_is : {A : Type 0} (x y : A) → done x ≡ done y → x ≡ y
ok_is x y e = cc

pub number_ok : (fault : TableFault) (r : Result (ℕ × List ℕ) CodecFault) (x : ℕ × List ℕ) → number_or fault r ≡ Ok x → r ≡ Ok x
number_ok fault (Ok y) x e = ap (λ (z : ℕ × List ℕ). Ok z) (ok_is y x e)
number_ok fault (Err d) x e = absurd cc

pub block_ok : (r : Result (List Entry) BlockFault) (x : List Entry) → block_or r ≡ Ok x → r ≡ Ok x
block_ok (Ok y) x e = ap (λ (z : List Entry). Ok z) (ok_is y x e)
block_ok (Err fault) x e = absurd cc
