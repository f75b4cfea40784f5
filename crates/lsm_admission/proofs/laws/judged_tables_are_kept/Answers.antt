use Rattle.std.proofs.Common.{ℕ, List}
use Rattle.lsm_admission.proofs.JudgedKept.{judged_kept}
use Rattle.lsm_admission.proofs.laws.judged_tables_are_kept.Goals as goal

pub returns : goal.returns
returns g c = λ shape v of ages only.
    let Keeps : ℕ → List ℕ → Type 0 = g.S.Finding.keeps g.N.Naming.place in
    judged_kept Keeps shape v of ages only
