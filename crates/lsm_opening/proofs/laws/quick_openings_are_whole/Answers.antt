use Rattle.std.proofs.Common.{◌≡◌, ℕ, List}
use Rattle.lsm_admission.specs.Keeping.{KeepsTables}
use Rattle.lsm_opening.proofs.QuickLaws.{opens_whole}
use Rattle.lsm_opening.proofs.laws.quick_openings_are_whole.Goals as goal

pub returns : goal.returns
returns g c = λ place o shape logs h was is honest kept q.
    let Keeps : ℕ → List ℕ → Type 0 = g.S.Finding.keeps place in
    opens_whole Keeps g.S.Shelf.honest (KeepsTables Keeps shape) o shape logs h was is honest kept q
