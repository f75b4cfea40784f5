use Rattle.std.proofs.Common.{ℕ, List}
use Rattle.lsm_admission.proofs.FoundOrder.{found_recorded}
use Rattle.lsm_admission.proofs.laws.found_is_recorded.Goals as goal

pub returns : goal.returns
returns g c = λ rest h shape v r f.
    let Keeps : ℕ → List ℕ → Type 0 = g.S.Finding.keeps g.N.Naming.place in
    found_recorded Keeps c.named_is_recorded.ensures rest h shape v r f
