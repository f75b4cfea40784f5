use Rattle.std.proofs.Common.{◌≡◌, ℕ, List, ◌++◌, map, ◌∙◌, ap}
use Rattle.lsm_table.specs.Registry.{Table}
use Rattle.lsm_model.specs.Files.{File}
use Rattle.lsm_merge.specs.Work.{Work, job_of}
use Rattle.lsm_live.proofs.Reservations.{input_numbers, reserved_is}
use Rattle.lsm_live.proofs.reserved.reservation_of.Goals as goal

pub returns : goal.returns
returns g c =
    let w : Work = c.args.job.now in
    let number : Table → ℕ = λ t. t.number in
    let upper : c.push_numbers.new.numbers.items ≡ map number w.upper =
    c.in_ok-push_numbers.ensures ∙ (ap (λ (ns : List ℕ). ns ++ map number c.upper.result.now) c.new-inputs.ensures.items ∙ ap (map number) c.upper.ensures) in
    let inputs : c.of.result ≡ map (λ (F : File). F.number) (job_of w).inputs =
    c.of.ensures ∙ (c.in_ok-push_numbers-2.ensures ∙ (ap (λ (ns : List ℕ). ns ++ map number c.lower.result.now) upper ∙ (ap (λ (ts : List Table). map number w.upper ++ map number ts) c.lower.ensures ∙ input_numbers w))) in
    c.new.ensures ∙ reserved_is w _ _ _ _ _ c.ticket.ensures.ticket c.level.ensures.level inputs
    (c.of-low.ensures ∙ (c.in_ok-from_slice.ensures.items ∙ c.low.ensures)) (c.of-high.ensures ∙ (c.in_ok-from_slice-2.ensures.items ∙ c.high.ensures))
