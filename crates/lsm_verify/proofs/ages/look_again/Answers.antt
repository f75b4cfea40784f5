use Rattle.std.proofs.Common.{ℕ, List, map, subst}
use Rattle.lsm_codec.specs.Lists.{Has}
use Rattle.lsm_model.specs.Merging.{Placed}
use Rattle.lsm_verify.proofs.AgeLaws.{merged_judged}
use Rattle.lsm_verify.proofs.ages.look_again.Goals as goal

pub returns-in-Ok-clause-judged : goal.returns-in-Ok-clause-judged
returns-in-Ok-clause-judged g c = λ h.
    let runs = c.in_ok-runs.ensures.runs h in
    let ls : List (List Placed) = map (λ r. r.placed) c.in_ok-runs.runs.items in
    (ls, runs, merged_judged ls c.in_ok-merger.merger.placed c.in-Ok.user runs.ordered c.in_ok-merger.ensures.placed (c.in-Ok.ensures.judged h))

pub returns-clause-number : goal.returns-clause-number
returns-clause-number g c =
    let one = c.in-Err.ensures.number in
    let file : ℕ × ℕ = (one.0, c.in-Err.fault.number) in
    c.in_ok-runs.ensures.files file (subst (λ (fs : List (ℕ × ℕ)). Has fs file) c.in_ok-merger.ensures.files one.1)
