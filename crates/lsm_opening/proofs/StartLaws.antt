-- States with the options of parts.
use Rattle.std.proofs.Common.{◌≡◌, ℕ, subst}
use Rattle.lsm_shelf.specs.Told.{Told}
use Rattle.lsm_state.specs.Held.{Held}
use Rattle.lsm_state.specs.declared.options.Options.{Options}
use Rattle.lsm_opening.specs.Starting.{IsNewWith, IsReopenedWith}

-- with options that are these
pub new_with : (p o : Options) (number : ℕ) (h : Held) (was is : Told) → p ≡ o → IsNewWith p number h was is → IsNewWith o number h was is
new_with p o number h was is same new = subst (λ (q : Options). IsNewWith q number h was is) same new

pub reopened_with : (Honest : Type 0) (p o : Options) (h : Held) (was is : Told) → p ≡ o → IsReopenedWith Honest p h was is → IsReopenedWith Honest o h was is
reopened_with Honest p o h was is same opened = subst (λ (q : Options). IsReopenedWith Honest q h was is) same opened
