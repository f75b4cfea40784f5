use Rattle.std.proofs.Common.{◌≡◌, ◌∙◌, ◌++◌, ◌∷◌, [], ℕ, ap}
use Rattle.lsm_version.specs.Versions.{file_of}
use Rattle.lsm_verify.proofs.UnsettledFiles.{adds_pair}
use Rattle.lsm_verify.proofs.unsettled.compare.Goals as goal

pub returns-in_ok-push_both : goal.returns-in_ok-push_both
returns-in_ok-push_both g c =
    let first : c.number-number.result ≡ c.args.table.now.number = c.number-number.ensures ∙ c.record.ensures.number in
    let second : c.number-its_number.result ≡ c.args.other.now.number = c.number-its_number.ensures ∙ c.record-then-is_unsettled.ensures.number in
    adds_pair (file_of c.args.level c.args.table.now) (file_of c.args.deeper c.args.other.now) c.args.numbers.now.items c.push_both.new.numbers.items (c.is_unsettled.ensures.0 c.if-is_unsettled.true)
    (c.in_ok-push_both.ensures ∙ ap (λ (n : ℕ). (c.args.numbers.now.items ++ n ∷ []) ++ c.number-its_number.result ∷ []) first
    ∙ ap (λ (n : ℕ). (c.args.numbers.now.items ++ c.args.table.now.number ∷ []) ++ n ∷ []) second)
