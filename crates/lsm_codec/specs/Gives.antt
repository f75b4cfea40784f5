-- What a reader answers, beside what reading gives, where memory may run out.
use Rattle.std.specs.Prelude.{◌≡◌, Bool, true, false, Result, Ok, Err}

abbrev pub FailsUnless : {Y E : Type 0} → Bool → E → Result Y E → Type 0
FailsUnless true fault read = Unit {0}
FailsUnless false fault read = read ≡ Err fault

-- The fault is the one that reading gives, or memory ran out. The test tells which fault of the
-- reader's says the latter.
abbrev pub Fails : {Y E : Type 0} → (E → Bool) → E → Result Y E → Type 0
Fails is_memory fault read = FailsUnless (is_memory fault) fault read

-- What a reader answered, as it is seen, is what reading gives, unless memory ran out.
abbrev pub Gives : {X Y E : Type 0} → (E → Bool) → (X → Y) → Result X E → Result Y E → Type 0
Gives is_memory see (Ok x) read = read ≡ Ok (see x)
Gives is_memory see (Err fault) read = Fails is_memory fault read
