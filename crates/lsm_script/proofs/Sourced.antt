-- One draw of a source of numbers.
use Rattle.std.proofs.Common.{◌≡◌, ℕ, List, subst}
use Rattle.std.specs.Prelude.{Result}
use Rattle.lsm_merge.specs.declared.number_source.NumberFault.{NumberFault}
use Rattle.lsm_script.specs.Drawing.{After}

pub after_is : (holds : List ℕ → List ℕ → List ℕ → Type 0) (t : ℕ) (drew refused asked : List ℕ) (r q : Result ℕ NumberFault) → r ≡ q → After r t holds drew refused asked → After q t holds drew refused asked
after_is holds t drew refused asked r q e a = subst (λ (p : Result ℕ NumberFault). After p t holds drew refused asked) e a
