use Rattle.std.proofs.Common.{◌≡◌, ℕ, List, true, get_or, rules, subst}
use Rattle.hex.specs.Hex.{is_hex_digit}
use Rattle.lsm_text.specs.declared.form.Form.TheVariants.{Hex}
use Rattle.lsm_text.proofs.SyntaxFaultLaws.{GoesOn, front_is, one_digit}
use Rattle.lsm_text.proofs.syntax_fault.past_digits.Goals as goal

pub digits-preserved : goal.digits-preserved
digits-preserved c =
    let rest : List ℕ = c.digits.rest.now in
    let yes : is_hex_digit (get_or rest 0 0) ≡ true = search rules in
    let here = subst (λ (l : List ℕ). GoesOn Hex c.args.word.now l) (front_is rest c.in-len1-up.len_at_least) c.digits.invariant in
    one_digit c.args.word.now _ (get_or rest 0 0) here yes
