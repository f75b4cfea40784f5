-- Steps of a reader: each goes on from what the step before it gave, or is the first fault.
use Rattle.std.specs.Prelude.{◌≡◌, Bool, true, false, Result, Ok, Err}
use Rattle.lsm_codec.specs.Gives as answer
pub use Rattle.lsm_codec.specs.Gives.{FailsUnless}
use Rattle.lsm_table.specs.declared.table_fault.TableFault.{TableFault}
use Rattle.lsm_table.specs.declared.table_fault.TableFault.TheVariants.{OutOfMemory}
use Rattle.lsm_inflate.specs.declared.inflate_fault.InflateFault.{InflateFault}
use Rattle.lsm_inflate.specs.declared.inflate_fault.InflateFault.TheVariants.{Table}

infixl 10 ◌>>=◌
abbrev pub ◌>>=◌ : {A B : Type 0} → Result A InflateFault → (A → Result B InflateFault)
    → Result B InflateFault
(Ok x) >>= f = f x
(Err fault) >>= f = Err fault

-- a test that a reader makes
abbrev pub guarded : {A : Type 0} → Bool → InflateFault → Result A InflateFault
    → Result A InflateFault
guarded true fault next = next
guarded false fault next = Err fault

-- a step of a reader of plain tables
abbrev pub lifted : {A : Type 0} → Result A TableFault → Result A InflateFault
lifted (Ok x) = Ok x
lifted (Err fault) = Err (Table fault)

-- ---- what a reader returned

abbrev pub is_memory : InflateFault → Bool
is_memory (Table OutOfMemory) = true
is_memory _ = false

-- The fault is the first one, or memory ran out.
abbrev pub Fails : {Y : Type 0} → InflateFault → Result Y InflateFault → Type 0
Fails fault read = answer.Fails is_memory fault read

-- What a reader returned is what reading gives, unless memory ran out.
abbrev pub Gives : {X Y : Type 0} → (X → Y) → Result X InflateFault → Result Y InflateFault
    → Type 0
Gives see result read = answer.Gives is_memory see result read

-- What was left is what reading gives, unless memory ran out.
abbrev pub Leaves : {Y : Type 0} → Result (Unit {0}) InflateFault → Y → Result Y InflateFault
    → Type 0
Leaves (Ok u) left read = read ≡ Ok left
Leaves (Err fault) left read = Fails fault read
