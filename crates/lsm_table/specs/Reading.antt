-- Steps of a reader: each goes on from what the step before it gave, or is the first fault.
use Rattle.std.specs.Prelude.{ℕ, Bool, true, false, List, Result, Ok, Err}
use Rattle.lsm_codec.specs.Gives as answer
pub use Rattle.lsm_codec.specs.Gives.{FailsUnless}
use Rattle.lsm_codec.specs.declared.fault.CodecFault.{CodecFault}
use Rattle.lsm_table.specs.declared.table_fault.TableFault.{TableFault}
use Rattle.lsm_table.specs.declared.table_fault.TableFault.TheVariants.{OutOfMemory}

infixl 10 ◌>>=◌
abbrev pub ◌>>=◌ : {A B : Type 0} → Result A TableFault → (A → Result B TableFault)
    → Result B TableFault
(Ok x) >>= f = f x
(Err fault) >>= f = Err fault

-- a test that a reader makes
abbrev pub guarded : {A : Type 0} → Bool → TableFault → Result A TableFault → Result A TableFault
guarded true fault next = next
guarded false fault next = Err fault

-- a number and what follows it, or this fault
abbrev pub number_or : TableFault → Result (ℕ × List ℕ) CodecFault → Result (ℕ × List ℕ) TableFault
number_or fault (Ok x) = Ok x
number_or fault (Err e) = Err fault

-- whether it went well, without what was read
abbrev pub settled : {A : Type 0} → Result A TableFault → Result (Unit {0}) TableFault
settled (Ok x) = Ok tt
settled (Err fault) = Err fault

-- ---- what a reader returned

abbrev pub is_memory : TableFault → Bool
is_memory OutOfMemory = true
is_memory _ = false

-- The fault is the first one, or memory ran out.
abbrev pub Fails : {Y : Type 0} → TableFault → Result Y TableFault → Type 0
Fails fault read = answer.Fails is_memory fault read

-- What a reader returned is what reading gives, unless memory ran out.
abbrev pub Gives : {X Y : Type 0} → (X → Y) → Result X TableFault → Result Y TableFault → Type 0
Gives see result read = answer.Gives is_memory see result read
